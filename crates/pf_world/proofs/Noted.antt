-- What the histories note of calls is what clients were answered.
use Rattle.std.proofs.Common.{◌≡◌, ℕ, zero, suc, ◌+◌, ◌==◌, Bool, true, false, cond, List, [], ◌∷◌, ◌++◌, take, Option}
use Rattle.std.proofs.Common.{Some, None, refl, sym, ap, ◌∙◌, subst, append_assoc, append-nil, arith}
use Rattle.std.specs.Prelude.{if◌then◌else◌, nat_lt}
use Rattle.std.specs.Option.{option_map}
use Rattle.std.proofs.lemmas.Bool.Decides.{nat_tests}
use Rattle.pf_errors.specs.declared.code.Code.{Code}
use Rattle.pf_quota.specs.Checks.{LimitCheck, check}
use Rattle.pf_quota.specs.Refusals.{code_of}
use Rattle.pf_quota.specs.declared.charges.Charge.TheVariants as charge
use Rattle.pf_quota.specs.declared.refusals.LimitRefusal.TheVariants.{Calls}
use Rattle.pf_quota.specs.declared.refusals.TheConstants.{MOST_CALLS}
use Rattle.pf_request.specs.Calls.{Call}
use Rattle.pf_request.specs.Job.{Job}
use Rattle.pf_desks.specs.Desk.{Profile, Desk, TrialState, Reply, Entry, called, claimed, filed, handed_back}
use Rattle.pf_desks.specs.Calls.{calls_in, passed_by, within_limits, answer_of_call, noted, after_call, reply_to}
use Rattle.pf_desks.specs.History.{calls_noted}
use Rattle.pf_desks.specs.Work.{DeskWork, worker_step}
use Rattle.pf_desks.specs.Desks.{Desks, desk_at, put_desk, worked, replied, work_done, not_now}
use Rattle.pf_desks.proofs.Always.{OfWork, moved, moves}
use Rattle.pf_desks.proofs.Histories.{call_notes}
use Rattle.pf_desks.proofs.Isolated.{desk_placed, same_project}
use Rattle.pf_desks.proofs.Sums.{calls_more, calls_worked}
use Rattle.pf_world.specs.World.{RunProfile, World, new_world}
use Rattle.pf_world.specs.Chores.{Response, answer, stray, Effect}
use Rattle.pf_request.specs.declared.step.Chore.{Chore}
use Rattle.pf_world.specs.Steps.{WorldStep, client_calls, worker_does, deque_owner, with_effect, effect_of, take_step}
use Rattle.pf_world.specs.Memory.{RespondsTo, RespondsInTurn}
use Rattle.pf_world.specs.Noted.{call_answered, calls_answered, HistoriesNoteTheCalls}
use Rattle.pf_world.proofs.Effects.{where_done}
use Rattle.pf_world.proofs.Legal.{IsWork, chore_work, refused_desks}

-- ---- lists of notes

noted_more : (es : List Entry) (c : Call) (r : Reply)
    → calls_noted (es ++ called c r ∷ []) ≡ calls_noted es ++ called c r ∷ []
noted_more [] c r = refl
noted_more (called x y ∷ es) c r = ap (λ (l : List Entry). called x y ∷ l) (noted_more es c r)
noted_more (claimed t ∷ es) c r = noted_more es c r
noted_more (filed t m ∷ es) c r = noted_more es c r
noted_more (handed_back t ∷ es) c r = noted_more es c r

noted_worked : (es : List Entry) (e : Entry) → OfWork e → calls_noted (es ++ e ∷ []) ≡ calls_noted es
noted_worked [] (called c r) of = elim of [ ]
noted_worked [] (claimed t) of = refl
noted_worked [] (filed t m) of = refl
noted_worked [] (handed_back t) of = refl
noted_worked (called x y ∷ es) e of = ap (λ (l : List Entry). called x y ∷ l) (noted_worked es e of)
noted_worked (claimed t ∷ es) e of = noted_worked es e of
noted_worked (filed t m ∷ es) e of = noted_worked es e of
noted_worked (handed_back t ∷ es) e of = noted_worked es e of

-- ---- the log of a desk

-- m calls more have room in the log, if it isn't full
abbrev HasRoomFor : Desk → ℕ → Type 0
HasRoomFor d m = calls_in d.history + m ≡ MOST_CALLS

module _ (d : Desk) where
  abbrev asked : LimitCheck
  asked = check (calls_in d.history + 1) MOST_CALLS Calls

  found : (b : Bool) → nat_lt MOST_CALLS (calls_in d.history + 1) ≡ b
      → passed_by d charge.Call ≡ option_map code_of
      (option_map (λ (c : LimitCheck). c.refusal) (cond b (Some asked) None))
  found b h = ap (λ (x : Bool). option_map code_of
      (option_map (λ (c : LimitCheck). c.refusal) (cond x (Some asked) None))) h

  has_room : (m : ℕ) → HasRoomFor d (suc m) → passed_by d charge.Call ≡ None
  has_room m room = found false (grind (arith, nat_tests))

  is_full : HasRoomFor d zero → passed_by d charge.Call ≡ Some (code_of Calls)
  is_full room = found true (grind (arith, nat_tests))

-- from one desk to the next these calls are noted, or as many of them as the log has room for
abbrev NotesOn : Desk → Desk → List Entry → Type 0
NotesOn d d' es =
    (m : ℕ) → HasRoomFor d m
    → (k : ℕ) × HasRoomFor d' k × ((rest : List Entry) → calls_noted d'.history ++ take k rest ≡ calls_noted d.history
    ++ take m (es ++ rest))

notes_none : (d d' : Desk) → calls_in d'.history ≡ calls_in d.history → calls_noted d'.history ≡ calls_noted d.history
    → NotesOn d d' []
notes_none d d' count same m room = (
  m,
  (omega (arith, count, room)),
  λ rest.
      ap (λ (l : List Entry). l ++ take m rest) same,
)

module _ (p : Profile) (d : Desk) (c : Call) where
  abbrev x : Desk × Reply
  x = answer_of_call p d c

  notes_full : HasRoomFor d zero → after_call p d c ≡ d
  notes_full room = ap (λ (o : Option Code). (within_limits d o (noted c x)).0) (is_full d room)

  notes_room : (m : ℕ) → HasRoomFor d (suc m) → (after_call p d c).history ≡ d.history ++ called c (reply_to p d c) ∷ []
  notes_room m room =
      ap (λ (o : Option Code). (within_limits d o (noted c x)).0.history) (has_room d m room)
      ∙ ap (λ (es : List Entry). es ++ called c x.1 ∷ []) (call_notes p d c)
      ∙ ap (λ (o : Option Code). d.history ++ called c (within_limits d o (noted c x)).1 ∷ []) (sym (has_room d m room))

  notes_call : NotesOn d (after_call p d c) (called c (reply_to p d c) ∷ [])
  notes_call zero room =
      let same = notes_full room in (
        zero,
        subst (λ (k : Desk). HasRoomFor k zero) (sym same) room,
        λ rest.
            ap (λ (k : Desk). calls_noted k.history ++ []) same,
      )
  notes_call (suc m) room =
      let longer = notes_room m room in
      let r : Reply = reply_to p d c in (
        m,
        omega (arith, room, ap calls_in longer, calls_more d.history c r),
        λ rest. ap (λ (es : List Entry). calls_noted es ++ take m rest) longer
            ∙ ap (λ (es : List Entry). es ++ take m rest) (noted_more d.history c r)
            ∙ append_assoc (calls_noted d.history) (called c r ∷ []) (take m rest),
      )

module _ (p : Profile) where
  -- a worker's step notes no call
  notes_work : (d d' : Desk) (k : DeskWork) → worker_step p d k ≡ Some d' → NotesOn d d' []
  notes_work d d' k h =
      let kept = moves p (λ (x : Desk). (calls_in x.history ≡ calls_in d.history)
      × (calls_noted x.history ≡ calls_noted d.history)) by_move d d' k h (refl, refl) in
      notes_none d d' kept.0 kept.1
    where
      by_move : (x : Desk) (t : ℕ) (f : Job → TrialState) (e : Entry) → OfWork e
          → (calls_in x.history ≡ calls_in d.history) × (calls_noted x.history ≡ calls_noted d.history)
          → (calls_in (moved x t f e).history ≡ calls_in d.history)
          × (calls_noted (moved x t f e).history ≡ calls_noted d.history)
      by_move x t f e of same = (calls_worked x.history e of ∙ same.0, noted_worked x.history e of ∙ same.1)

-- ---- a desk in a world

module _ (p : RunProfile) (q : ℕ) where
  notes_same : (d : Desk) → NotesOn d d []
  notes_same d = notes_none d d refl refl

  placed : (w : Desks) (r : ℕ) (d : Desk) (es : List Entry) → NotesOn (desk_at r w) d es
      → NotesOn (desk_at q w) (desk_at q (put_desk r d w)) (if r == q then es else [])
  placed w r d es h = subst (λ (k : Desk). NotesOn (desk_at q w) k (if r == q then es else []))
      (sym (desk_placed q r d w)) (by (r == q) refl)
    where
      by : (b : Bool) → (r == q) ≡ b → NotesOn (desk_at q w) (if b then d else desk_at q w) (if b then es else [])
      by true is = subst (λ (n : ℕ). NotesOn (desk_at n w) d es) (same_project q r is) h
      by false is = notes_same (desk_at q w)

  none_noted : (b : Bool) (d d' : Desk) → NotesOn d d' (if b then [] else []) → NotesOn d d' []
  none_noted true d d' h = h
  none_noted false d d' h = h

  with_work : (w : Desks) (r : ℕ) (o : Option Desk) → IsWork p (desk_at r w) o
      → NotesOn (desk_at q w) (desk_at q (worked r w o).0) []
  with_work w r None h = notes_same (desk_at q w)
  with_work w r (Some d) h = none_noted (r == q) (desk_at q w) (desk_at q (put_desk r d w))
      (placed w r d [] (notes_work p.profile (desk_at r w) d h.0 h.1))

  -- what a worker is answered is no call
  no_call : (w r t : ℕ) (k : Chore) (a : Option Response) → call_answered q (worker_does w r t k) a ≡ []
  no_call w r t k None = refl
  no_call w r t k (Some (answer (replied y))) = refl
  no_call w r t k (Some (answer work_done)) = refl
  no_call w r t k (Some (answer not_now)) = refl
  no_call w r t k (Some stray) = refl

  notes_chore : (s : World) (w r t : ℕ) (k : Chore)
      → NotesOn (desk_at q s.desks) (desk_at q (take_step p s (worker_does w r t k)).0.desks) []
  notes_chore s w r t k = by (effect_of p s w r t k) refl
    where
      by : (o : Option Effect) → effect_of p s w r t k ≡ o
          → NotesOn (desk_at q s.desks) (desk_at q (with_effect s w (deque_owner w k) r o).0.desks) []
      by None i = notes_same (desk_at q s.desks)
      by (Some e) i =
          with_work s.desks r e.desk (
          where_done (λ (e : Effect). IsWork p (desk_at r s.desks) e.desk) p s w r t k e i
          (λ hand rs x y done. chore_work p r t k (desk_at r s.desks) hand rs e done)
          )

  notes_step : (s k : World) (x : WorldStep) (a : Option Response) → RespondsTo p s x a k
      → NotesOn (desk_at q s.desks) (desk_at q k.desks) (call_answered q x a)
  notes_step s k (client_calls r c) (Some a) to =
      subst (λ (y : World × Response). NotesOn (desk_at q s.desks) (desk_at q y.0.desks)
      (call_answered q (client_calls r c) (Some y.1))) to
      (placed s.desks r (after_call p.profile (desk_at r s.desks) c)
      (called c (reply_to p.profile (desk_at r s.desks) c) ∷ []) (notes_call p.profile (desk_at r s.desks) c))
  notes_step s k (worker_does w r t y) (Some a) to =
      subst (NotesOn (desk_at q s.desks) (desk_at q k.desks)) (sym (no_call w r t y (Some a)))
      (subst (λ (z : World × Response). NotesOn (desk_at q s.desks) (desk_at q z.0.desks) []) to
      (notes_chore s w r t y))
  notes_step s k x None to =
      subst (λ (z : Desk × List Entry). NotesOn (desk_at q s.desks) z.0 z.1)
      (λ i. (desk_at q (sym same i), sym (nothing x) i)) (notes_same (desk_at q s.desks))
    where
      same : k.desks ≡ s.desks
      same = ap (λ (r : World). r.desks) to.1 ∙ refused_desks p s x

      nothing : (x : WorldStep) → call_answered q x None ≡ []
      nothing (client_calls r c) = refl
      nothing (worker_does w r t y) = refl

  notes_along : (s s' : World) (xs : List WorldStep) (ans : List (Option Response)) (m : ℕ)
      → RespondsInTurn p s xs ans s' → HasRoomFor (desk_at q s.desks) m
      → calls_noted (desk_at q s'.desks).history ≡ calls_noted (desk_at q s.desks).history
      ++ take m (calls_answered q xs ans)
  notes_along s s' [] [] m to room = ap (λ (k : World). calls_noted (desk_at q k.desks).history) to
      ∙ none_taken m (calls_noted (desk_at q s.desks).history)
    where
      none_taken : (m : ℕ) (l : List Entry) → l ≡ l ++ take m []
      none_taken zero l = sym (append-nil l)
      none_taken (suc m) l = sym (append-nil l)
  notes_along s s' [] (a ∷ ans) m to room = absurd to
  notes_along s s' (x ∷ xs) [] m to room = absurd to
  notes_along s s' (x ∷ xs) (a ∷ ans) m to room =
      let one = notes_step s to.0 x a to.1 m room in
      notes_along to.0 s' xs ans one.0 to.2 one.1 ∙ one.2 (calls_answered q xs ans)

pub histories_note_the_calls : HistoriesNoteTheCalls
histories_note_the_calls p n q xs ans s to = notes_along p q (new_world n) s xs ans MOST_CALLS to refl
