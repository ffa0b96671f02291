-- The lines of a client's file, answered one after another.
use Rattle.std.proofs.Common.{◌≡◌, ◌⊎◌, ◌==◌, ◌<◌, ℕ, ◌+◌, Bool, true, false, not, List, [], ◌∷◌, ◌++◌, length, Option}
use Rattle.std.proofs.Common.{Some, None, refl, sym, ap, ◌∙◌, subst, inl, inr, append-nil, append_assoc, length-append}
use Rattle.std.proofs.Common.{eqb-true, arith, ◌-◌, ◌≤◌}
use Rattle.std.specs.Prelude.{Result, Ok, Err, IfOk, OnErr, if◌then◌else◌}
use Rattle.std.specs.Io.KnownBytes.{Consumes, IsAtEnd}
use Rattle.std.proofs.KnownBytes.{Consumes-nil, Consumes-trans}
use Rattle.pf_errors.specs.declared.fault.OrNoMemory.{OrNoMemory}
use Rattle.pf_errors.specs.declared.fault.OrNoMemory.TheVariants as stop
use Rattle.pf_errors.specs.declared.memory.NoMemory.{NoMemory}
use Rattle.pf_streams.specs.declared.stream.StreamFault.{StreamFault}
use Rattle.pf_streams.specs.declared.stream.StreamFault.TheVariants.{Read, Write}
use Rattle.pf_request.specs.declared.call.Call as call_code
use Rattle.pf_request.specs.View.{view_of_call}
use Rattle.pf_request.specs.Calls.{Call}
use Rattle.pf_desks.specs.Reported.{reply_text}
use Rattle.pf_world.specs.Steps.{client_calls}
use Rattle.pf_world.specs.Reported.{step_text}
use Rattle.pf_book.specs.declared.reply.Reply.{Reply}
use Rattle.pf_farm_accounts.specs.Receipts.{receipt_of}
use Rattle.pf_farm_state.specs.Clients.{ClientView, empty_client, full_seat, with_look, GetsReceipt, StaysFull}
use Rattle.pf_farm_state.specs.declared.look.TrialLook.{TrialLook}
use Rattle.pf_farm.specs.Floors.{IsTrialOver}
use Rattle.pf_protocol.specs.Clients.{ClientLine, calls, awaits, client_line_at}
use Rattle.pf_protocol.specs.Complete.{is_due}
use Rattle.pf_protocol.proofs.Shorter.{client_line_shorter}
use Rattle.pf_wire.specs.Endings.{ReportsLine}
use Rattle.pf_wire.specs.Steps.{AreRead}
use Rattle.pf_wire.specs.Turns.{MayFollow, TakesPiece}
use Rattle.pf_wire.proofs.Leaving.{goes}
use Rattle.pf_wire.proofs.Progress.{nothing_due}
use Rattle.pf_wire.proofs.Refusing.{due_text}
use Rattle.pf_wire.specs.declared.steps.TheConstants.{MOST_BYTES}
use Rattle.pf_clients.specs.declared.end.FileEnd.{FileEnd}
use Rattle.pf_clients.specs.declared.end.FileEnd.TheVariants.{Answered, NoCommand, Unread, Unwritten}
use Rattle.pf_clients.specs.declared.end.FileEnd.TheVariants.{NoMemory as OutOfMemory}
use Rattle.pf_clients.specs.Faults.{ended_by}
use Rattle.pf_clients.specs.Lines.{Line, logged, one_too_many, without_memory, waited, answer_in, asked_in, call_text}
use Rattle.pf_clients.specs.Lines.{line_text, lines_text, Leaves, AnswersLine, CutsLine, AnswersFront, RefusesFront}
use Rattle.pf_clients.specs.Lines.{IsCut, AnswersLines, LosesFront, EndsAt, AnswersBytes, AnswersFile}
use Rattle.pf_clients.proofs.Follows.{line_stays, none_stays}

-- ---- calls

-- the result of a call
abbrev pub CallResultsIn : call_code.Call → Result Reply NoMemory → (was is : ClientView) → Type 0
CallResultsIn c r s s' = (l : Line) × (asked_in l ≡ calls (view_of_call c)) × Leaves l s s'
    × (call_text s.project r ≡ line_text s.project l)

-- a seat that is known to be full is the same when it is marked full
full_again : (s : ClientView) → s.is_full ≡ true → s ≡ full_seat s
full_again s e = λ i. record s { is_full = e i }

pub call_results_in : (c : call_code.Call) (r : Result Reply NoMemory) (s s' : ClientView)
    → IfOk r (λ a. GetsReceipt c a s s') → StaysFull s s' r → OnErr r (s' ≡ s) → CallResultsIn c r s s'
call_results_in c r s s' gets full err = by s.is_full refl r gets full err
  where
    by_receipt : (a : Reply) → s.is_full ≡ false → GetsReceipt c a s s' → CallResultsIn c (Ok a) s s'
    by_receipt a room (inl h) = (logged (receipt_of s.project h.0 c a), refl, (room, h.1), refl)
    by_receipt a room (inr h) = (one_too_many (view_of_call c), refl, h.0, ap (reply_text s.project) h.1)

    by : (b : Bool) → s.is_full ≡ b → (x : Result Reply NoMemory) → IfOk x (λ a. GetsReceipt c a s s')
        → StaysFull s s' x → OnErr x (s' ≡ s) → CallResultsIn c x s s'
    by true e (Ok a) got stays same = let h = stays e in
        (one_too_many (view_of_call c), refl, h.0 ∙ full_again s e, ap (reply_text s.project) h.1)
    by true e (Err x) got stays same = absurd (stays e).1
    by false e (Ok a) got stays same = by_receipt a e got
    by false e (Err x) got stays same = (without_memory (view_of_call c), refl, (e, same), refl)

pub call_answered : (c : call_code.Call) (r : Result Reply NoMemory) (s s' : ClientView) (reported : List ℕ)
    → CallResultsIn c r s s' → reported ≡ call_text s.project r → AnswersLine (calls (view_of_call c)) s s' reported
call_answered c r s s' reported h text = (h.0, h.1, h.2, text ∙ h.3)

pub call_cut : (c : call_code.Call) (r : Result Reply NoMemory) (s s' : ClientView) → CallResultsIn c r s s'
    → CutsLine (calls (view_of_call c)) s s'
call_cut c r s s' h = (h.0, h.1, h.2)

pub waits : (l : TrialLook) (t : ℕ) (s s' : ClientView) (text : List ℕ) → l.project ≡ s.project → l.ticket ≡ t
    → (l.stops ≡ false → IsTrialOver l.stage) → s' ≡ with_look s l → text ≡ [] → AnswersLine (awaits t) s s' text
waits l t s s' text own ticket over is none = (waited l, ap awaits ticket, (own, over, is), none)

-- the text of the result of a project's call, however the step is written
pub outcome_of_call : (q : ℕ) (c : Call) (r : Result Reply NoMemory)
    → step_text (client_calls q c) (answer_in r) ≡ call_text q r
outcome_of_call q c (Ok a) = refl
outcome_of_call q c (Err e) = refl

-- ---- the line in front

pub front_cut : (bytes rest : List ℕ) (m : ClientLine) (s s' : ClientView)
    → client_line_at s.project bytes ≡ Some (m, rest) → CutsLine m s s' → IsCut bytes s s'
front_cut bytes rest m s s' at h = inr (h.0, rest, at ∙ ap (λ k. Some (k, rest)) (sym h.1), h.2)

-- ---- lines

leaves_project : (l : Line) (s s' : ClientView) → Leaves l s s' → s'.project ≡ s.project
leaves_project (logged r) s s' h = ap (λ (x : ClientView). x.project) h.1
leaves_project (one_too_many c) s s' h = ap (λ (x : ClientView). x.project) h
leaves_project (without_memory c) s s' h = ap (λ (x : ClientView). x.project) h.1
leaves_project (waited l) s s' h = ap (λ (x : ClientView). x.project) h.2

lines_more : (q : ℕ) (bytes : List ℕ) (s : ClientView) (ls : List Line) (rest : List ℕ) (k : ClientView) (l : Line)
    (after : List ℕ) (s' : ClientView)
    → AnswersLines q bytes s ls rest k → client_line_at q rest ≡ Some (asked_in l, after) → Leaves l k s'
    → AnswersLines q bytes s (ls ++ l ∷ []) after s'
lines_more q bytes s [] rest k l after s' h at leaves = (
  after,
  s',
  ap (client_line_at q) h.0 ∙ at,
  subst (λ (x : ClientView). Leaves l x s') (sym h.1) leaves,
  (refl, refl),
)
lines_more q bytes s (m ∷ ls) rest k l after s' h at leaves =
    (h.0, h.1, h.2, h.3, lines_more q h.0 h.1 ls rest k l after s' h.4 at leaves)

text_more : (q : ℕ) (ls : List Line) (l : Line) → lines_text q (ls ++ l ∷ []) ≡ lines_text q ls ++ line_text q l
text_more q [] l = append-nil (line_text q l)
text_more q (m ∷ ls) l = ap (λ (x : List ℕ). line_text q m ++ x) (text_more q ls l)
    ∙ sym (append_assoc (line_text q m) (lines_text q ls) (line_text q l))

-- so many bytes were read, the lines before what is kept were answered with this text, whatever follows, and the next
-- has this number
pub record Reached (over : Bool) (was is : ClientView) (kept : List ℕ) (number taken : ℕ) (r0 r1 : Option (List ℕ))
    (text : List ℕ) : Type 0 where
  pub read : List ℕ
  pub lines : List Line
  pub consumed : Consumes r0 r1 read
  pub count : length read ≡ taken
  pub ends : over ≡ true → IsAtEnd r1 ⊎ (taken ≡ MOST_BYTES)
  pub answered : (more : List ℕ) → MayFollow over more
      → AnswersLines was.project (read ++ more) was lines (kept ++ more) is
  pub project : is.project ≡ was.project
  pub text_is : text ≡ lines_text was.project lines
  pub next : number ≡ length lines + 1

pub none_yet : (s : ClientView) (kept : List ℕ) (taken : ℕ) (r : Option (List ℕ)) → kept ≡ [] → taken ≡ 0
    → Reached false s s kept 1 taken r r []
none_yet s kept taken r none_read none_taken = record {
  read = [];
  lines = [];
  consumed = Consumes-nil r;
  count = sym none_taken;
  ends = λ (o : false ≡ true). absurd cc;
  answered = λ more f. (ap (λ (bs : List ℕ). bs ++ more) (sym none_read), refl);
  project = refl;
  text_is = refl;
  next = refl;
}

-- a piece more was read
pub piece_more : (over : Bool) (was is : ClientView) (kept kept' : List ℕ) (n taken taken' : ℕ)
    (r0 r1 r2 : Option (List ℕ)) (text : List ℕ) → Reached false was is kept n taken r0 r1 text
    → TakesPiece r1 r2 kept kept' taken taken' over → Reached over was is kept' n taken' r0 r2 text
piece_more over was is kept kept' n taken taken' r0 r1 r2 text a t = record {
  read = a.read ++ t.0;
  lines = a.lines;
  consumed = Consumes-trans r0 r1 r2 a.read t.0 a.consumed t.1;
  count = omega (arith, length-append a.read t.0, a.count, t.3);
  ends = t.4;
  answered = λ more f.
      subst (λ (bs : List ℕ). AnswersLines was.project bs was a.lines (kept' ++ more) is)
      (sym (append_assoc a.read t.0 more))
      (subst (λ (bs : List ℕ). AnswersLines was.project (a.read ++ (t.0 ++ more)) was a.lines bs is)
      (sym (append_assoc kept t.0 more) ∙ ap (λ (bs : List ℕ). bs ++ more) (sym t.2))
      (a.answered (t.0 ++ more) (λ (o : false ≡ true). absurd cc)));
  project = a.project;
  text_is = a.text_is;
  next = a.next;
}

-- a line more was answered
pub one_more : (over : Bool) (was is s' : ClientView) (kept rest : List ℕ) (n taken : ℕ) (r0 r1 : Option (List ℕ))
    (text t : List ℕ) → Reached over was is kept n taken r0 r1 text → is_due over kept ≡ true
    → AnswersFront kept rest is s' t → Reached over was s' rest (n + 1) taken r0 r1 (text ++ t)
one_more over was is s' kept rest n taken r0 r1 text t a due h =
    let l : Line = h.2.0 in
    let at : client_line_at is.project kept ≡ Some (asked_in l, rest) =
    h.1 ∙ ap (λ m. Some (m, rest)) (sym h.2.1) in
    let reported : t ≡ line_text was.project l = h.2.3 ∙ ap (λ (q : ℕ). line_text q l) a.project in
    record {
      read = a.read;
      lines = a.lines ++ l ∷ [];
      consumed = a.consumed;
      count = a.count;
      ends = a.ends;
      answered = λ more f.
          lines_more was.project (a.read ++ more) was a.lines (kept ++ more) is l (rest ++ more) s' (a.answered more f)
          (ap (λ (q : ℕ). client_line_at q (kept ++ more)) (sym a.project)
          ∙ line_stays over is.project kept more (asked_in l) rest due f at) h.2.2;
      project = leaves_project l is s' h.2.2 ∙ a.project;
      text_is = ap (λ (x : List ℕ). x ++ t) a.text_is
          ∙ ap (λ (x : List ℕ). lines_text was.project a.lines ++ x) reported
          ∙ sym (text_more was.project a.lines l);
      next = omega (arith, a.next, length-append a.lines (l ∷ []));
    }

-- ---- what is left

pub not_false : (b : Bool) → not b ≡ false → b ≡ true
not_false true h = refl
not_false false h = absurd (cc)

over_rest : (rest : List ℕ) → is_due true rest ≡ false → rest ≡ []
over_rest [] h = refl
over_rest (b ∷ bs) h = absurd (omega (arith, eqb-true (length (b ∷ bs)) 0 (not_false (length (b ∷ bs) == 0) h)))

pub some_due : (over : Bool) (rest : List ℕ) → is_due over rest ≡ true → ¬ (rest ≡ [])
some_due over [] due e = nothing_due over due
some_due over (b ∷ bs) due e = cc

some_more : (rest more : List ℕ) → ¬ (rest ≡ []) → ¬ (rest ++ more ≡ [])
some_more [] more h e = h refl
some_more (b ∷ bs) more h e = cc

pub shorter_after : (over : Bool) (rest after : List ℕ) (s s' : ClientView) (t : List ℕ) → is_due over rest ≡ true
    → AnswersFront rest after s s' t → length after < length rest
shorter_after over [] after s s' t due h = absurd (nothing_due over due)
shorter_after over (b ∷ bs) after s s' t due h = omega (arith, client_line_shorter s.project b bs h.0 after h.1)

-- ---- ends

module _ (over : Bool) (kept more : List ℕ) (due : is_due over kept ≡ true) (f : MayFollow over more) where
  none_more : (n : ℕ) (s s' : ClientView) (t : List ℕ) → RefusesFront kept n s s' t
      → RefusesFront (kept ++ more) n s s' t
  none_more n s s' t h = (none_stays over s.project kept more due f h.0, h.1, h.2)

  lost_more : (n : ℕ) (s s' : ClientView) (t : List ℕ) → LosesFront n kept s s' t → LosesFront n (kept ++ more) s s' t
  lost_more n s s' t (text, lost, is, inl h) =
      (text, lost, is, inl (h.0 ++ more, (h.1.0, line_stays over s.project kept more h.1.0 h.0 due f h.1.1, h.1.2)))
  lost_more n s s' t (text, lost, is, inr h) = (text, lost, is, inr (none_more n s s' text h))

  cut_more : (s s' : ClientView) → IsCut kept s s' → IsCut (kept ++ more) s s'
  cut_more s s' (inl h) = inl h
  cut_more s s' (inr h) =
      inr (h.0, h.1 ++ more, line_stays over s.project kept more (asked_in h.0) h.1 due f h.2, h.3)

  -- how a file ends at what is due, whatever follows
  pub ends_more : (end : FileEnd) (n : ℕ) (s s' : ClientView) (t : List ℕ) → EndsAt end n kept s s' t
      → EndsAt end n (kept ++ more) s s' t
  ends_more Answered n s s' t h = absurd (some_due over kept due h.0)
  ends_more (NoCommand r) n s s' t h = (
    none_more n s s' t h.0,
    some_more kept more h.1,
    subst (λ (line : List ℕ). ReportsLine (Some r) n line) (sym (due_text over kept more due f)) h.2,
  )
  ends_more (Unread e) n s s' t h = h
  ends_more (Unwritten e) n s s' t h = (lost_more n s s' t h.0, some_more kept more h.1)
  ends_more OutOfMemory n s s' t h = (cut_more s s' h.0, h.1)

-- nothing is left at the end of the file
pub ends_over : (kept more : List ℕ) (n : ℕ) (s : ClientView) → is_due true kept ≡ false → MayFollow true more
    → EndsAt Answered n (kept ++ more) s s []
ends_over kept more n s due f = (
  ap (λ (bs : List ℕ). bs ++ more) (over_rest kept due) ∙ f refl,
  refl,
  refl,
)

pub ends_unread : (e : OrNoMemory StreamFault) (n : ℕ) (rest : List ℕ) (s : ClientView)
    → EndsAt (ended_by e) n rest s s []
ends_unread (stop.Fault (Read e)) n rest s = (refl, refl)
ends_unread (stop.Fault (Write e)) n rest s = (refl, refl)
ends_unread stop.NoMemory n rest s = (inl refl, refl)

-- a file that ends where it was read and answered so far
pub file_answered : (over : Bool) (q : ℕ) (was is s' : ClientView) (kept : List ℕ) (n taken : ℕ)
    (r0 r1 : Option (List ℕ)) (text t : List ℕ) (end : FileEnd) → was ≡ empty_client q
    → Reached over was is kept n taken r0 r1 text → taken ≤ MOST_BYTES
    → ((more : List ℕ) → MayFollow over more → EndsAt end n (kept ++ more) is s' t)
    → AnswersFile q r0 s' (text ++ t) end
file_answered over q was is s' kept n taken r0 r1 text t end new a le ends =
    let follows = goes over r0 r1 a.read taken a.consumed a.count le a.ends in
    let bytes = a.read ++ follows.0 in
    let all : AnswersBytes bytes was s' (text ++ t) end = record {
      lines = a.lines;
      rest = kept ++ follows.0;
      last = is;
      reported = t;
      answered = a.answered follows.0 follows.1;
      ends = subst (λ (i : ℕ). EndsAt end i (kept ++ follows.0) is s' t) a.next (ends follows.0 follows.1);
      text_is = ap (λ (x : List ℕ). x ++ t) a.text_is;
    } in
    (bytes, follows.2, subst (λ (v : ClientView). AnswersBytes bytes v s' (text ++ t) end) new all)

-- ---- what is left to be done

-- a piece is taken where nothing is due and the file isn't over
pub less_to_read : (over : Bool) (most taken taken' : ℕ) (kept kept' piece : List ℕ) → kept' ≡ kept ++ piece
    → taken' ≡ taken + length piece → (over ≡ false → (taken < taken') × (taken' < most)) → taken' ≤ most
    → (most - taken') + (most - taken') + length kept' + (if over then 0 else 1)
    < (most - taken) + (most - taken) + length kept + 1
less_to_read true most taken taken' kept kept' piece e t more le =
    omega (arith, ap length e, length-append kept piece, t, le)
less_to_read false most taken taken' kept kept' piece e t more le =
    omega (arith, ap length e, length-append kept piece, t, le, more refl)
