-- What was written where the work stops.
use Rattle.std.proofs.Common.{◌≡◌, ◌==◌, ◌<◌, ◌≤◌, ◌+◌, ◌-◌, ℕ, Bool, true, false, List, [], ◌∷◌, ◌++◌, length, take}
use Rattle.std.proofs.Common.{Option, Some, None, refl, sym, ap, ◌∙◌, subst, arith, append_assoc, length-append, ◌⊎◌}
use Rattle.std.proofs.Common.{inl, inr, zero, suc, not, eqb-true}
use Rattle.std.specs.Prelude.{IfSome, if◌then◌else◌}
use Rattle.std.specs.Io.KnownBytes.{Appends, Consumes, IsAtEnd, Keeps}
use Rattle.std.proofs.KnownBytes.{Appends-nil, Consumes-nil, Consumes-trans, Consumes-kept}
use Rattle.std.proofs.lemmas.List.{append-nil}
use Rattle.std.proofs.Math.Seq.{take-append-add}
use Rattle.pf_errors.specs.declared.fault.OrNoMemory.{OrNoMemory}
use Rattle.pf_errors.specs.declared.fault.OrNoMemory.TheVariants.{NoMemory, Fault}
use Rattle.pf_streams.specs.declared.stream.StreamFault.{StreamFault}
use Rattle.pf_streams.specs.declared.stream.StreamFault.TheVariants.{Read, Write}
use Rattle.pf_streams.specs.Streams.{AppendsFront, CountsWrite}
use Rattle.pf_streams.proofs.Writes.{appends_both}
use Rattle.pf_trace.proofs.Fronts.{front_of_both, front_of_more}
use Rattle.pf_world.specs.World.{RunProfile, World, new_world}
use Rattle.pf_world.specs.Chores.{Response}
use Rattle.pf_world.specs.Steps.{WorldStep}
use Rattle.pf_world.specs.Memory.{RespondsInTurn}
use Rattle.pf_pool.specs.Profile.{IsRight, ForRight}
use Rattle.pf_wire.specs.Steps.{AnswersOne, AnswersInPart, AreRead, SimulatesSteps, StepsAnsweredInPart, StepsLeaves}
use Rattle.pf_wire.specs.Steps.{WholeAnswered, last_text}
use Rattle.pf_wire.specs.Turns.{MayFollow, Turns, AnswersCommands, so_far, no_more, ReportsUpTo, ReportsAll}
use Rattle.pf_wire.specs.Turns.{ReportsInPart}
use Rattle.pf_wire.specs.Turns.{TurnsLeave, TakesPiece, PieceLeaves}
use Rattle.pf_protocol.specs.Complete.{is_due, is_complete, CompleteCommands, unfinished}
use Rattle.pf_wire.specs.declared.steps.TheConstants.{MOST_BYTES, WORKERS}
use Rattle.pf_protocol.proofs.Shorter.{command_shorter}
use Rattle.pf_wire.proofs.Progress.{begun, none_due, nothing_due, turn_of_one, turns_both, turns_later, finished_well}
use Rattle.pf_wire.proofs.Progress.{finished_ill, goes_on}

-- a text, and the beginning of what goes on after it
front_both : (w0 w1 w2 : Option (List ℕ)) (a b more : List ℕ) → Appends w0 w1 a → AppendsFront w1 w2 b
    → AppendsFront w0 w2 ((a ++ b) ++ more)
front_both w0 w1 w2 a b more h k = (
  a ++ k.0,
  k.1 ++ more,
  ap (λ (t : List ℕ). (a ++ t) ++ more) k.2 ∙ ap (λ (t : List ℕ). t ++ more) (sym (append_assoc a k.0 k.1))
      ∙ append_assoc (a ++ k.0) k.1 more,
  appends_both w0 w1 w2 a k.0 h k.3,
)

not_false : (b : Bool) → not b ≡ false → b ≡ true
not_false true h = refl
not_false false h = absurd cc

-- something is due at the end
some_due : (b : ℕ) (bs : List ℕ) → is_due true (b ∷ bs) ≡ false → ⊥
some_due b bs h = omega (arith, eqb-true (length (b ∷ bs)) 0 (not_false (length (b ∷ bs) == 0) h))

-- what follows what is due is shorter
pub shorter_after : (over : Bool) (rest after : List ℕ) (k : ℕ) (w w' : World) (text : List ℕ) → is_due over rest ≡ true
    → AnswersOne rest k w text (Some after) w'
    → length after < length rest
shorter_after over [] after k w w' text due a = absurd (nothing_due over due)
shorter_after over (b ∷ bs) after k w w' text due a = omega (arith, command_shorter b bs a.0 after a.2)

-- ---- turns that are gathered

-- what was written, and after it what is gathered, is the text of commands up to a rest
abbrev pub AtHand : RunProfile → Bool → (bytes : List ℕ) → World → ℕ → (gathered rest : List ℕ) → World → ℕ
    → (written_old written_new : Option (List ℕ)) → Type 0
AtHand p over bytes v j gathered rest w k w0 w1 = (out : List ℕ) × Appends w0 w1 out × Turns p over bytes v j
    (out ++ gathered) rest w k

-- a text was added
abbrev pub IsAdded : (gathered_old text gathered_new : List ℕ) → (written_old written_new : Option (List ℕ)) → Type 0
IsAdded g text g' w0 w1 = (out : List ℕ) × Appends w0 w1 out × (out ++ g' ≡ g ++ text)

moved : (out more g g' text : List ℕ) → more ++ g' ≡ g ++ text → (out ++ g) ++ text ≡ (out ++ more) ++ g'
moved out more g g' text e = append_assoc out g text ∙ ap (λ (t : List ℕ). out ++ t) (sym e)
    ∙ sym (append_assoc out more g')

module _ (p : RunProfile) where
  pub at_hand_first : (over : Bool) (bytes g : List ℕ) (v : World) (j : ℕ) (w : Option (List ℕ)) → g ≡ []
      → AtHand p over bytes v j g bytes v j w w
  at_hand_first over bytes g v j w e =
      ([], Appends-nil w, subst (λ (t : List ℕ). Turns p over bytes v j t bytes v j) (sym e) (begun p over bytes v j))

  pub in_part : (over : Bool) (bytes rest : List ℕ) (v w : World) (j k : ℕ) (w0 w1 : Option (List ℕ))
      → ReportsUpTo p over bytes v j rest w k w0 w1
      → ReportsInPart p over bytes v j w0 w1
  in_part over bytes rest v w j k w0 w1 t = (t.0, so_far rest w k t.1, (t.0, [], sym (append-nil t.0), t.2))

  -- all that is gathered was written
  pub at_hand_sent : (over : Bool) (bytes g rest : List ℕ) (v w : World) (j k : ℕ) (w0 w1 w2 : Option (List ℕ))
      → AtHand p over bytes v j g rest w k w0 w1
      → Appends w1 w2 g → ReportsUpTo p over bytes v j rest w k w0 w2
  at_hand_sent over bytes g rest v w j k w0 w1 w2 a h = (a.0 ++ g, a.2, appends_both w0 w1 w2 a.0 g a.1 h)

  -- a beginning of it was written
  pub at_hand_in_part : (over : Bool) (bytes g rest : List ℕ) (v w : World) (j k : ℕ) (w0 w1 w2 : Option (List ℕ))
      → AtHand p over bytes v j g rest w k w0 w1
      → AppendsFront w1 w2 g → ReportsInPart p over bytes v j w0 w2
  at_hand_in_part over bytes g rest v w j k w0 w1 w2 a h =
      (a.0 ++ g, so_far rest w k a.2, front_of_both w0 w1 w2 a.0 g a.1 h)

  -- a write failed
  pub leaves_at : (over : Bool) (bytes : List ℕ) (v : World) (j : ℕ) (w0 w1 : Option (List ℕ)) (f : StreamFault)
      (n0 n n1 : ℕ) → n ≡ n0 → CountsWrite f n n1
      → ReportsInPart p over bytes v j w0 w1 → TurnsLeave p (Fault f) over bytes v j w0 w1 n0 n1
  leaves_at over bytes v j w0 w1 (Read e) n0 n n1 k c h = absurd c
  leaves_at over bytes v j w0 w1 (Write e) n0 n n1 k c h = (omega (arith, k, c), h)

module _ (p : RunProfile) (right : IsRight p) where
  one_more : (over : Bool) (bytes rest after : List ℕ) (v w w' : World) (j k : ℕ) (front text : List ℕ)
      → Turns p over bytes v j front rest w k → is_due over rest ≡ true
      → AnswersOne rest k w text (Some after) w' → Turns p over bytes v j (front ++ text) after w' (k + 1)
  one_more over bytes rest after v w w' j k front text t due a =
      let one = turn_of_one p over rest after w w' k a.0 a.1 due a.2 (a.4 p right) in
      turns_both p over bytes rest after v w w' j k (k + 1) front text t
      (subst (λ (s : List ℕ). Turns p over rest w k s after w' (k + 1)) (sym a.3) one)

  -- the answer is gathered too
  pub at_hand_more : (over : Bool) (bytes g g' rest after : List ℕ) (v w w' : World) (j k : ℕ)
      (w0 w1 w2 : Option (List ℕ)) (text : List ℕ) → AtHand p over bytes v j g rest w k w0 w1
      → is_due over rest ≡ true → AnswersOne rest k w text (Some after) w' → IsAdded g text g' w1 w2
      → AtHand p over bytes v j g' after w' (k + 1) w0 w2
  at_hand_more over bytes g g' rest after v w w' j k w0 w1 w2 text h due a added = (
    h.0 ++ added.0,
    appends_both w0 w1 w2 h.0 added.0 h.1 added.1,
    subst (λ (t : List ℕ). Turns p over bytes v j t after w' (k + 1)) (moved h.0 added.0 g g' text added.2)
        (one_more over bytes rest after v w w' j k (h.0 ++ g) text h.2 due a),
  )

  -- a beginning of it was written, with what was gathered before
  pub more_in_part : (over : Bool) (bytes g rest : List ℕ) (v w w' : World) (j k : ℕ) (w0 w1 w2 : Option (List ℕ))
      (text : List ℕ) (next : Option (List ℕ))
      → AtHand p over bytes v j g rest w k w0 w1 → is_due over rest ≡ true → AnswersOne rest k w text next w'
      → AppendsFront w1 w2 (g ++ text) → ReportsInPart p over bytes v j w0 w2
  more_in_part over bytes g rest v w w' j k w0 w1 w2 text (Some after) h due a f = (
    (h.0 ++ g) ++ text,
    so_far after w' (k + 1) (one_more over bytes rest after v w w' j k (h.0 ++ g) text h.2 due a),
    subst (AppendsFront w0 w2) (sym (append_assoc h.0 g text)) (front_of_both w0 w1 w2 h.0 (g ++ text) h.1 f),
  )
  more_in_part over bytes g rest v w w' j k w0 w1 w2 text None h due a f = (
    (h.0 ++ g) ++ text,
    no_more (h.0 ++ g) rest w k h.2 (none_due over rest due a.0) (ap (λ (t : List ℕ). (h.0 ++ g) ++ t) a.1),
    subst (AppendsFront w0 w2) (sym (append_assoc h.0 g text)) (front_of_both w0 w1 w2 h.0 (g ++ text) h.1 f),
  )

  -- the answer that the line is no command was written
  pub ends_ill : (over : Bool) (bytes g g' rest : List ℕ) (v w w' : World) (j k : ℕ) (w0 w1 w2 w3 : Option (List ℕ))
      (text : List ℕ) → AtHand p over bytes v j g rest w k w0 w1
      → is_due over rest ≡ true → AnswersOne rest k w text None w' → IsAdded g text g' w1 w2 → Appends w2 w3 g'
      → ReportsAll p over bytes v j w0 w3
  ends_ill over bytes g g' rest v w w' j k w0 w1 w2 w3 text h due a added sent = (
    h.0 ++ g,
    rest,
    w,
    k,
    h.2,
    none_due over rest due a.0,
    subst (Appends w0 w3) (sym (moved h.0 added.0 g g' text added.2) ∙ ap (λ (t : List ℕ). (h.0 ++ g) ++ t) a.1)
        (appends_both w0 w2 w3 (h.0 ++ added.0) g' (appends_both w0 w1 w2 h.0 added.0 h.1 added.1) sent),
  )

  -- a beginning of that was written
  pub ends_ill_in_part : (over : Bool) (bytes g g' rest : List ℕ) (v w w' : World) (j k : ℕ)
      (w0 w1 w2 w3 : Option (List ℕ)) (text : List ℕ) → AtHand p over bytes v j g rest w k w0 w1
      → is_due over rest ≡ true → AnswersOne rest k w text None w' → IsAdded g text g' w1 w2 → AppendsFront w2 w3 g'
      → ReportsInPart p over bytes v j w0 w3
  ends_ill_in_part over bytes g g' rest v w w' j k w0 w1 w2 w3 text h due a added sent = (
    (h.0 ++ g) ++ text,
    no_more (h.0 ++ g) rest w k h.2 (none_due over rest due a.0) (ap (λ (t : List ℕ). (h.0 ++ g) ++ t) a.1),
    subst (AppendsFront w0 w3) (sym (moved h.0 added.0 g g' text added.2))
        (front_of_both w0 w2 w3 (h.0 ++ added.0) g' (appends_both w0 w1 w2 h.0 added.0 h.1 added.1) sent),
  )

-- ---- pieces of an input

take_both : (most : ℕ) (xs ys : List ℕ) → length xs ≤ most → take most (xs ++ ys) ≡ xs ++ take (most - length xs) ys
take_both most xs ys le =
    let same : most ≡ length xs + (most - length xs) = omega (arith, le) in
    ap (λ (n : ℕ). take n (xs ++ ys)) same ∙ take-append-add xs ys (most - length xs)

take_none : (n : ℕ) → ◌≡◌ {A = List ℕ} (take n []) []
take_none zero = refl
take_none (suc n) = refl

none_left : (most : ℕ) (left read : List ℕ) → (left ≡ []) ⊎ (length read ≡ most) → take (most - length read) left ≡ []
none_left most left read (inl e) = rw e (take_none (most - length read))
none_left most left read (inr e) = let none : most - length read ≡ 0 = omega (arith, e) in
    ap (λ (n : ℕ). take n left) none

-- how what was read goes on, up to the most that may be read
covers : (most : ℕ) (over : Bool) (r0 r1 : Option (List ℕ)) (read : List ℕ) → Consumes r0 r1 read → length read ≤ most
    → (over ≡ true → IsAtEnd r1 ⊎ (length read ≡ most))
    → (more : List ℕ) × MayFollow over more × IfSome r0 (λ input. read ++ more ≡ take most input)
covers most over None r1 read h le ends = ([], λ o. refl, tt)
covers most over (Some input) None read h le ends = absurd h
covers most over (Some input) (Some left) read h le ends = (
  take (most - length read) left,
  λ o. none_left most left read (ends o),
  sym (ap (take most) h ∙ take_both most read left le),
)

-- n bytes were read, and what was written is the text of their commands up to the bytes that are kept
abbrev pub IsThere : (over : Bool) (bytes : List ℕ) → World
    → (k taken : ℕ) (read_old read_new written_old written_new : Option (List ℕ)) → Type 0
IsThere over bytes w k taken r0 r1 w0 w1 = (read : List ℕ) × Consumes r0 r1 read × (length read ≡ taken)
    × (over ≡ true → IsAtEnd r1 ⊎ (taken ≡ MOST_BYTES))
    × ForRight (λ p. ReportsUpTo p over read (new_world WORKERS) 1 bytes w k w0 w1)

pub is_there_first : (bytes : List ℕ) (w : World) (taken : ℕ) (r w' : Option (List ℕ)) → bytes ≡ []
    → w ≡ new_world WORKERS → taken ≡ 0
    → IsThere false bytes w 1 taken r r w' w'
is_there_first bytes w taken r out none_read is_new none_taken = (
  [],
  Consumes-nil r,
  sym none_taken,
  λ (o : false ≡ true). absurd cc,
  λ p right. (
    [],
    subst (λ (v : World). Turns p false [] (new_world WORKERS) 1 [] bytes v 1) (sym is_new)
        (subst (λ (bs : List ℕ). Turns p false [] (new_world WORKERS) 1 [] bs (new_world WORKERS) 1) (sym none_read)
        (begun p false [] (new_world WORKERS) 1)),
    Appends-nil out,
  ),
)

-- the number of the next command is no more than the bytes that were taken
pub within_later : (old new piece : List ℕ) (k taken taken' : ℕ) → new ≡ old ++ piece → taken' ≡ taken + length piece
    → k + length old ≤ taken + 1 → k + length new ≤ taken' + 1
within_later old new piece k taken taken' e t le = omega (arith, ap length e, length-append old piece, t, le)

-- less is left to be taken
pub less_left : (over : Bool) (most taken taken' : ℕ) → (over ≡ false → (taken < taken') × (taken' < most))
    → taken ≤ taken'
    → (most - taken') + (if over then 0 else 1) < (most - taken) + 1
less_left true most taken taken' more le = omega (arith, le)
less_left false most taken taken' more le = omega (arith, more refl)

-- how what was read goes on
pub goes : (over : Bool) (r0 r1 : Option (List ℕ)) (read : List ℕ) (taken : ℕ) → Consumes r0 r1 read
    → length read ≡ taken → taken ≤ MOST_BYTES
    → (over ≡ true → IsAtEnd r1 ⊎ (taken ≡ MOST_BYTES))
    → (more : List ℕ) × MayFollow over more × AreRead r0 (read ++ more)
goes over r0 r1 read taken h e le ends =
    covers MOST_BYTES over r0 r1 read h (subst (λ (n : ℕ). n ≤ MOST_BYTES) (sym e) le)
    (λ o. subst (λ (n : ℕ). IsAtEnd r1 ⊎ (n ≡ MOST_BYTES)) (sym e) (ends o))

-- the bytes that were read are no more than may be
pub is_there_taken : (over : Bool) (bytes : List ℕ) (w : World) (k taken : ℕ) (r0 r1 w0 w1 : Option (List ℕ))
    → IsThere over bytes w k taken r0 r1 w0 w1 → taken ≤ MOST_BYTES
    → (read : List ℕ) × (length read ≤ MOST_BYTES) × Consumes r0 r1 read
is_there_taken over bytes w k taken r0 r1 w0 w1 s le = (s.0, subst (λ (n : ℕ). n ≤ MOST_BYTES) (sym s.2) le, s.1)

-- with what was taken after it
pub is_there_taken_more : (over : Bool) (bytes : List ℕ) (w : World) (k taken : ℕ) (r0 r1 r2 w0 w1 : Option (List ℕ))
    (piece : List ℕ) → IsThere over bytes w k taken r0 r1 w0 w1
    → taken + length piece ≤ MOST_BYTES → Consumes r1 r2 piece
    → (read : List ℕ) × (length read ≤ MOST_BYTES) × Consumes r0 r2 read
is_there_taken_more over bytes w k taken r0 r1 r2 w0 w1 piece s le h =
    let sum : length (s.0 ++ piece) ≡ taken + length piece = omega (arith, length-append s.0 piece, s.2) in
    (s.0 ++ piece, subst (λ (n : ℕ). n ≤ MOST_BYTES) (sym sum) le, Consumes-trans r0 r1 r2 s.0 piece s.1 h)

-- a piece more was read, of an input that wasn't over
pub is_there_later : {was over : Bool} {bytes bytes' : List ℕ} {w : World} {k taken taken' : ℕ}
    (r0 r1 r2 w0 w1 : Option (List ℕ)) → was ≡ false
    → IsThere was bytes w k taken r0 r1 w0 w1 → TakesPiece r1 r2 bytes bytes' taken taken' over
    → IsThere over bytes' w k taken' r0 r2 w0 w1
is_there_later {was} {over} {bytes} {bytes'} {w} {k} {taken} {taken'} r0 r1 r2 w0 w1 going stood t =
    let s = subst (λ (b : Bool). IsThere b bytes w k taken r0 r1 w0 w1) going stood in (
      s.0 ++ t.0,
      Consumes-trans r0 r1 r2 s.0 t.0 s.1 t.1,
      omega (arith, length-append s.0 t.0, s.2, t.3),
      t.4,
      λ p right.
          let one = s.4 p right in (
            one.0,
            subst (λ (bs : List ℕ). Turns p over (s.0 ++ t.0) (new_world WORKERS) 1 one.0 bs w k) (sym t.2)
                (turns_later p over s.0 bytes t.0 (new_world WORKERS) w 1 k one.0 one.1),
            one.2,
          ),
    )

-- some commands more were answered
pub is_there_further : (over : Bool) (bytes rest : List ℕ) (w w' : World) (k l taken : ℕ)
    (r0 r1 w0 w1 w2 : Option (List ℕ)) → IsThere over bytes w k taken r0 r1 w0 w1
    → ForRight (λ p. ReportsUpTo p over bytes w k rest w' l w1 w2) → IsThere over rest w' l taken r0 r1 w0 w2
is_there_further over bytes rest w w' k l taken r0 r1 w0 w1 w2 s t = (
  s.0,
  s.1,
  s.2,
  s.3,
  λ p right.
      let one = s.4 p right in
      let two = t p right in (
        one.0 ++ two.0,
        turns_both p over s.0 bytes rest (new_world WORKERS) w w' 1 k l one.0 two.0 one.1 two.1,
        appends_both w0 w1 w2 one.0 two.0 one.2 two.2,
      ),
)

module _ (p : RunProfile) (right : IsRight p) where
  -- a beginning of the answer was written
  pub is_there_in_part : (over : Bool) (bytes : List ℕ) (w : World) (k taken : ℕ) (r0 r1 w0 w1 : Option (List ℕ))
      → IsThere over bytes w k taken r0 r1 w0 w1 → taken ≤ MOST_BYTES
      → StepsAnsweredInPart p r0 w0 w1
  is_there_in_part over bytes w k taken r0 r1 w0 w1 s le =
      let c = goes over r0 r1 s.0 taken s.1 s.2 le s.3 in
      let t = s.4 p right in
      let m = goes_on p over s.0 bytes c.0 w t.0 k t.1 c.1 in
      (s.0 ++ c.0, c.2, (t.0 ++ m.0, m.1, m.2, (t.0, m.0, refl, t.2)))

  -- nothing was read
  pub is_there_before : (r w : Option (List ℕ)) → StepsAnsweredInPart p r w w
  is_there_before r w = is_there_in_part false [] (new_world WORKERS) 1 0 r r w w
      (is_there_first [] (new_world WORKERS) 0 r w refl refl refl) (omega arith)

  reports_in_part : (over : Bool) (read bytes more : List ℕ) (w : World) (k : ℕ) (w0 w1 w2 : Option (List ℕ))
      (front text : List ℕ) → Turns p over read (new_world WORKERS) 1 front bytes w k
      → MayFollow over more → Appends w0 w1 front → AnswersCommands p over bytes w k text → AppendsFront w1 w2 text
      → AnswersInPart p (read ++ more) w0 w2
  reports_in_part over read bytes more w k w0 w1 w2 front text t f h (so_far rest x l u) g =
      let both = turns_both p over read bytes rest (new_world WORKERS) w x 1 k l front text t u in
      let m = goes_on p over read rest more x (front ++ text) l both f in
      ((front ++ text) ++ m.0, m.1, m.2, front_both w0 w1 w2 front text m.0 h g)
  reports_in_part over read bytes more w k w0 w1 w2 front text t f h (no_more next rest x l u none e) g =
      let both = turns_both p over read bytes rest (new_world WORKERS) w x 1 k l front next t u in
      let same : (front ++ next) ++ last_text false l ≡ front ++ text = append_assoc front next (last_text false l)
      ∙ ap (λ (s : List ℕ). front ++ s) (sym e) in (
        (front ++ next) ++ last_text false l,
        2,
        finished_ill p over read rest more x (front ++ next) l both f none,
        subst (AppendsFront w0 w2) (sym same) (front_of_both w0 w1 w2 front text h g),
      )

  -- the answers to what was due stopped
  pub is_there_stopped : (over : Bool) (bytes : List ℕ) (w : World) (k taken : ℕ) (r0 r1 w0 w1 w2 : Option (List ℕ))
      (e : OrNoMemory StreamFault) (m0 m1 n0 n1 n2 : ℕ)
      → IsThere over bytes w k taken r0 r1 w0 w1 → taken ≤ MOST_BYTES → m1 ≡ m0 → n1 ≡ n0
      → TurnsLeave p e over bytes w k w1 w2 n1 n2
      → StepsLeaves p e r0 r1 w0 w2 m0 m1 n0 n2
  is_there_stopped over bytes w k taken r0 r1 w0 w1 w2 NoMemory m0 m1 n0 n1 n2 s le m n t =
      let c = goes over r0 r1 s.0 taken s.1 s.2 le s.3 in
      let one = s.4 p right in (
        m,
        t.0 ∙ n,
        (
          s.0 ++ c.0,
          c.2,
          reports_in_part over s.0 bytes c.0 w k w0 w1 w2 one.0 t.1.0 one.1 c.1
              one.2 t.1.1 t.1.2,
        ),
      )
  is_there_stopped over bytes w k taken r0 r1 w0 w1 w2 (Fault (Read f)) m0 m1 n0 n1 n2 s le m n t = absurd t
  is_there_stopped over bytes w k taken r0 r1 w0 w1 w2 (Fault (Write f)) m0 m1 n0 n1 n2 s le m n t =
      let c = goes over r0 r1 s.0 taken s.1 s.2 le s.3 in
      let one = s.4 p right in (
        m,
        t.0 ∙ ap (λ (i : ℕ). i + 1) n,
        (
          s.0 ++ c.0,
          c.2,
          reports_in_part over s.0 bytes c.0 w k w0 w1 w2 one.0 t.1.0
              one.1 c.1 one.2 t.1.1 t.1.2,
        ),
      )

  -- memory ran out
  pub is_there_without_memory : (over : Bool) (bytes : List ℕ) (w : World) (k taken : ℕ)
      (r0 r1 r2 w0 w1 : Option (List ℕ)) (m0 m1 n0 n1 : ℕ)
      → IsThere over bytes w k taken r0 r1 w0 w1 → taken ≤ MOST_BYTES → m1 ≡ m0 → n1 ≡ n0
      → StepsLeaves p NoMemory r0 r2 w0 w1 m0 m1 n0 n1
  is_there_without_memory over bytes w k taken r0 r1 r2 w0 w1 m0 m1 n0 n1 s le m n =
      (m, n, is_there_in_part over bytes w k taken r0 r1 w0 w1 s le)

  -- the whole commands are answered
  whole_answered : (bytes : List ℕ) (w : World) (k taken : ℕ) (r0 r1 r2 w0 w1 : Option (List ℕ))
      → IsThere false bytes w k taken r0 r1 w0 w1 → is_complete bytes ≡ false
      → Keeps r1 r2 → WholeAnswered p r0 r2 w0 w1
  whole_answered bytes w k taken r0 r1 r2 w0 w1 s rest kept =
      let t = s.4 p right in
      let turns = t.1 in
      let left : CompleteCommands (bytes ++ []) [] = subst (λ (bs : List ℕ). CompleteCommands bs [])
      (sym (append-nil bytes)) (unfinished bytes rest) in
      let all = turns.wholes refl [] [] left in
      let steps : turns.steps ++ [] ≡ turns.steps = append-nil turns.steps in
      let outcomes : turns.outcomes ++ [] ≡ turns.outcomes = append-nil turns.outcomes in (
        s.0,
        turns.steps,
        turns.outcomes,
        w,
        Consumes-kept r0 r1 r2 s.0 s.1 kept,
        subst (λ (bs : List ℕ). CompleteCommands bs turns.steps) (append-nil s.0)
            (subst (CompleteCommands (s.0 ++ [])) steps all),
        subst (λ (xs : List (Option Response)). RespondsInTurn p (new_world WORKERS) turns.steps xs w) outcomes
            (subst (λ (ss : List WorldStep). RespondsInTurn p (new_world WORKERS) ss (turns.outcomes ++ []) w) steps
            (turns.in_turn [] [] w refl)),
        subst (Appends w0 w1) turns.writes t.2,
      )

  -- a piece could not be read
  pub is_there_unread : (e : OrNoMemory StreamFault) (bytes : List ℕ) (w : World) (k taken : ℕ)
      (r0 r1 r2 w0 w1 : Option (List ℕ)) (m0 m1 m2 n0 n1 : ℕ)
      → IsThere false bytes w k taken r0 r1 w0 w1 → taken ≤ MOST_BYTES → is_complete bytes ≡ false → m1 ≡ m0 → n1 ≡ n0
      → PieceLeaves e r1 r2 m1 m2
      → StepsLeaves p e r0 r2 w0 w1 m0 m2 n0 n1
  is_there_unread NoMemory bytes w k taken r0 r1 r2 w0 w1 m0 m1 m2 n0 n1 s le rest m n t =
      (t ∙ m, n, is_there_in_part false bytes w k taken r0 r1 w0 w1 s le)
  is_there_unread (Fault (Read f)) bytes w k taken r0 r1 r2 w0 w1 m0 m1 m2 n0 n1 s le rest m n t = (
    t.0 ∙ ap (λ (i : ℕ). i + 1) m,
    n,
    is_there_in_part false bytes w k taken r0 r1 w0 w1 s le,
    whole_answered bytes w k taken r0 r1 r2 w0 w1 s rest t.1,
  )
  is_there_unread (Fault (Write f)) bytes w k taken r0 r1 r2 w0 w1 m0 m1 m2 n0 n1 s le rest m n t = absurd t

  -- all was answered, and the last line was no command
  pub is_there_ended_ill : (over : Bool) (bytes : List ℕ) (w : World) (k taken : ℕ) (r0 r1 w0 w1 w2 : Option (List ℕ))
      → IsThere over bytes w k taken r0 r1 w0 w1 → taken ≤ MOST_BYTES
      → ReportsAll p over bytes w k w1 w2 → SimulatesSteps p r0 w0 w2 2
  is_there_ended_ill over bytes w k taken r0 r1 w0 w1 w2 s le t =
      let c = goes over r0 r1 s.0 taken s.1 s.2 le s.3 in
      let one = s.4 p right in
      let both = turns_both p over s.0 bytes t.1 (new_world WORKERS) w t.2 1 k t.3 one.0 t.0 one.1 t.4 in
      let last = last_text false t.3 in (
        s.0 ++ c.0,
        (one.0 ++ t.0) ++ last,
        c.2,
        finished_ill p over s.0 t.1 c.0 t.2 (one.0 ++ t.0) t.3 both c.1 t.5,
        subst (Appends w0 w2) (sym (append_assoc one.0 t.0 last)) (appends_both w0 w1 w2 one.0 (t.0 ++ last) one.2 t.6),
      )

  -- all was answered
  pub is_there_ended : (bytes : List ℕ) (w : World) (k taken : ℕ) (r0 r1 w0 w1 : Option (List ℕ))
      → IsThere true bytes w k taken r0 r1 w0 w1 → taken ≤ MOST_BYTES
      → is_due true bytes ≡ false → SimulatesSteps p r0 w0 w1 0
  is_there_ended (b ∷ bs) w k taken r0 r1 w0 w1 s le done = absurd (some_due b bs done)
  is_there_ended [] w k taken r0 r1 w0 w1 s le done =
      let c = goes true r0 r1 s.0 taken s.1 s.2 le s.3 in
      let t = s.4 p right in (
        s.0,
        t.0,
        subst (AreRead r0) (ap (λ (more : List ℕ). s.0 ++ more) (c.1 refl) ∙ append-nil s.0) c.2,
        finished_well p s.0 w t.0 k t.1,
        t.2,
      )
