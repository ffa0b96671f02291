-- The line that is no command is the one after the commands, and it is reported by its own number.
use Rattle.std.proofs.Common.{◌≡◌, ◌≤◌, ◌+◌, ℕ, zero, suc, Bool, true, false, List, [], ◌∷◌, ◌++◌, length, Option, Some}
use Rattle.std.proofs.Common.{None, refl, sym, ap, ◌∙◌, subst, arith, append_assoc, length-append, ◌⊎◌, ◌==◌}
use Rattle.std.specs.Prelude.{if◌then◌else◌, option_and_then}
use Rattle.std.specs.Io.KnownBytes.{Consumes, IsAtEnd}
use Rattle.std.proofs.KnownBytes.{Consumes-nil, Consumes-trans}
use Rattle.std.proofs.lemmas.List.{append-nil}
use Rattle.pf_errors.proofs.Bools.{both}
use Rattle.pf_world.specs.Steps.{WorldStep}
use Rattle.pf_world.specs.World.{World}
use Rattle.pf_protocol.specs.Commands.{Line, with_byte, first_line, content_of_line, words_of_line, command_at}
use Rattle.pf_protocol.specs.Complete.{is_due, has_source, size_in}
use Rattle.pf_protocol.proofs.Completed.{with_more}
use Rattle.pf_wire.specs.Steps.{AreRead, AnswersOne}
use Rattle.pf_wire.specs.Turns.{MayFollow, TakesPiece}
use Rattle.pf_wire.specs.Endings.{LeadsTo, LeadsToNone, ReadsUpTo, RefusesLine, ReportsLine, rest_after}
use Rattle.pf_wire.specs.declared.ending.InputEnd.{InputEnd}
use Rattle.pf_wire.specs.declared.steps.TheConstants.{MOST_BYTES}
use Rattle.pf_wire.proofs.Progress.{due_stays}
use Rattle.pf_wire.proofs.Leaving.{goes}

-- ---- some commands, and then more

rest_after_next : (m n : ℕ) (mid : List ℕ) (o : Option (WorldStep × List ℕ))
    → ((bs : List ℕ) → rest_after m bs ≡ Some mid → rest_after (m + n) bs ≡ rest_after n mid)
    → option_and_then (λ p. rest_after m p.1) o ≡ Some mid
    → option_and_then (λ p. rest_after (m + n) p.1) o ≡ rest_after n mid
rest_after_next m n mid None h e = absurd cc
rest_after_next m n mid (Some p) h e = h p.1 e

rest_after_both : (m n : ℕ) (bytes mid : List ℕ) → rest_after m bytes ≡ Some mid
    → rest_after (m + n) bytes ≡ rest_after n mid
rest_after_both zero n bytes mid e =
    let none : zero + n ≡ n = omega arith in let same : bytes ≡ mid = cc in ap (λ (i : ℕ). rest_after i bytes) none
    ∙ ap (rest_after n) same
rest_after_both (suc m) n bytes mid e =
    let one : suc m + n ≡ suc (m + n) = omega arith in
    ap (λ (i : ℕ). rest_after i bytes) one ∙ rest_after_next m n mid (command_at bytes)
    (λ bs. rest_after_both m n bs mid) e

pub leads_first : (over : Bool) (bytes : List ℕ) (j : ℕ) → LeadsTo over bytes bytes j j
leads_first over bytes j = (0, omega arith, λ more f. refl)

-- one command that is due
pub leads_one : (over : Bool) (rest after text : List ℕ) (w w' : World) (k : ℕ) → is_due over rest ≡ true
    → AnswersOne rest k w text (Some after) w'
    → LeadsTo over rest after k (k + 1)
leads_one over rest after text w w' k due a = (
  1,
  refl,
  λ more f. ap (option_and_then (λ p. rest_after 0 p.1))
      (due_stays over rest more due f ∙ ap (with_more more) a.2),
)

pub leads_both : (over : Bool) (bytes rest left : List ℕ) (j k l : ℕ) → LeadsTo over bytes rest j k
    → LeadsTo over rest left k l → LeadsTo over bytes left j l
leads_both over bytes rest left j k l a b = (
  a.0 + b.0,
  omega (arith, a.1, b.1),
  λ more f. rest_after_both a.0 b.0 (bytes ++ more) (rest ++ more)
      (a.2 more f) ∙ b.2 more f,
)

-- a piece more was read
leads_later : (over : Bool) (bytes rest piece : List ℕ) (j k : ℕ) → LeadsTo false bytes rest j k
    → LeadsTo over (bytes ++ piece) (rest ++ piece) j k
leads_later over bytes rest piece j k a = (
  a.0,
  a.1,
  λ more f.
      ap (rest_after a.0) (append_assoc bytes piece more) ∙ a.2 (piece ++ more) (λ (o : false ≡ true). absurd cc)
      ∙ ap (λ (t : List ℕ). Some t) (sym (append_assoc rest piece more)),
)

-- ---- the text of the first line

abbrev line_of : Bool → ℕ → List ℕ → Line → Line
line_of ends b bs l = if◌then◌else◌ {A = Line} ends (record { text = []; is_ended = true; rest = bs }) (with_byte b l)

same_text : (ends : Bool) (b : ℕ) (bs cs : List ℕ) (l m : Line) → (l.is_ended ≡ true → m.text ≡ l.text)
    → (line_of ends b bs l).is_ended ≡ true
    → (line_of ends b cs m).text ≡ (line_of ends b bs l).text
same_text true b bs cs l m same h = refl
same_text false b bs cs l m same h = ap (λ (t : List ℕ). b ∷ t) (same h)

text_stays : (bs more : List ℕ) → (first_line bs).is_ended ≡ true
    → (first_line (bs ++ more)).text ≡ (first_line bs).text
text_stays [] more h = absurd cc
text_stays (b ∷ bs) more h = same_text (b == 10) b bs (bs ++ more) (first_line bs) (first_line (bs ++ more))
    (text_stays bs more) h

-- what is due has the same first line, whatever may follow
pub due_text : (over : Bool) (rest more : List ℕ) → is_due over rest ≡ true → MayFollow over more
    → (first_line (rest ++ more)).text ≡ (first_line rest).text
due_text false rest more due f =
    text_stays rest more (both (first_line rest).is_ended
    (has_source (size_in (content_of_line (words_of_line (first_line rest).text))) (first_line rest).rest) due).0
due_text true rest more due f = rw (f refl) (ap (λ (bs : List ℕ). (first_line bs).text) (append-nil rest))

-- ---- all that is read

pub reads_first : (kept : List ℕ) (taken : ℕ) (r : Option (List ℕ)) → kept ≡ [] → taken ≡ 0
    → ReadsUpTo false kept 1 taken r r
reads_first kept taken r none_read none_taken = (
  [],
  Consumes-nil r,
  sym none_taken,
  λ (o : false ≡ true). absurd cc,
  subst (λ (bs : List ℕ). LeadsTo false [] bs 1 1) (sym none_read) (leads_first false [] 1),
)

pub reads_later : (was over : Bool) (kept kept' : List ℕ) (k taken taken' : ℕ) (r0 r1 r2 : Option (List ℕ))
    → was ≡ false
    → ReadsUpTo was kept k taken r0 r1 → TakesPiece r1 r2 kept kept' taken taken' over
    → ReadsUpTo over kept' k taken' r0 r2
reads_later was over kept kept' k taken taken' r0 r1 r2 going stood t =
    let s = subst (λ (b : Bool). ReadsUpTo b kept k taken r0 r1) going stood in (
      s.0 ++ t.0,
      Consumes-trans r0 r1 r2 s.0 t.0 s.1 t.1,
      omega (arith, length-append s.0 t.0, s.2, t.3),
      t.4,
      subst (λ (bs : List ℕ). LeadsTo over (s.0 ++ t.0) bs 1 k) (sym t.2) (leads_later over s.0 kept t.0 1 k s.4),
    )

pub reads_further : (over : Bool) (kept rest : List ℕ) (k l taken : ℕ) (r0 r1 : Option (List ℕ))
    → ReadsUpTo over kept k taken r0 r1 → LeadsTo over kept rest k l
    → ReadsUpTo over rest l taken r0 r1
reads_further over kept rest k l taken r0 r1 s b = (s.0, s.1, s.2, s.3, leads_both over s.0 kept rest 1 k l s.4 b)

-- the line that ends the work is the one after the commands that were read
pub refuses_line : (over : Bool) (kept : List ℕ) (k taken : ℕ) (r0 r1 : Option (List ℕ)) (e : InputEnd)
    → ReadsUpTo over kept k taken r0 r1 → taken ≤ MOST_BYTES
    → LeadsToNone over kept k e → RefusesLine r0 e
refuses_line over kept k taken r0 r1 e s le t =
    let c = goes over r0 r1 s.0 taken s.1 s.2 le s.3 in
    let rest = t.0 in
    let all = leads_both over s.0 kept rest 1 k t.1 s.4 t.2 in
    let number : t.1 ≡ all.0 + 1 = omega (arith, all.1) in (
      s.0 ++ c.0,
      rest ++ c.0,
      all.0,
      c.2,
      all.2 c.0 c.1,
      due_stays over rest c.0 t.3 c.1 ∙ ap (with_more c.0) t.4,
      subst (λ (line : List ℕ). ReportsLine e.refused (all.0 + 1) line) (sym (due_text over rest c.0 t.3 c.1))
          (subst (λ (n : ℕ). ReportsLine e.refused n (first_line rest).text) number t.5),
    )
