-- What histories note of calls, and how many they note.
use Rattle.std.proofs.Common.{◌≡◌, ℕ, ◌+◌, ◌<◌, ◌≤◌, Bool, true, false, cond, List, [], ◌∷◌, ◌++◌, length, Option, Some}
use Rattle.std.proofs.Common.{None, refl, sym, ap, ◌∙◌, subst, append-nil, arith}
use Rattle.std.specs.Prelude.{nat_lt}
use Rattle.std.specs.Option.{option_map}
use Rattle.std.proofs.lemmas.Bool.Decides.{nat_tests}
use Rattle.pf_errors.specs.declared.code.Code.{Code}
use Rattle.pf_errors.specs.declared.code.Code.TheVariants as code
use Rattle.pf_quota.specs.Checks.{LimitCheck, check}
use Rattle.pf_quota.specs.Refusals.{code_of}
use Rattle.pf_quota.specs.declared.refusals.LimitRefusal.TheVariants.{Calls}
use Rattle.pf_quota.specs.declared.refusals.TheConstants.{MOST_CALLS}
use Rattle.pf_request.specs.Calls.{Call}
use Rattle.pf_desks.specs.Calls.{calls_in, HasRoom, within_limits, answer_of_call, noted, reply_to, after_call}
use Rattle.pf_desks.specs.Desk.{Profile, Desk, no_desk, Entry, called, claimed, filed, handed_back, held_at, refused}
use Rattle.pf_desks.specs.declared.mark.FileMark.{FileMark}
use Rattle.pf_desks.specs.History.{EntryFollows, IsLegal, IsLegalDesk}
use Rattle.pf_desks.specs.Work.{is_queued, is_running, after_claim, after_file, after_hand_back}
use Rattle.pf_desks.proofs.Always.{where_so}
use Rattle.pf_desks.proofs.Histories.{call_notes}
use Rattle.pf_desks.proofs.Sums.{calls_more, calls_claimed, calls_filed, calls_handed_back}
use Rattle.pf_farm_state.specs.Clients.{calls_noted}

-- ---- histories

noted_more : (es : List Entry) (e : Entry) → calls_noted (es ++ e ∷ []) ≡ calls_noted es ++ calls_noted (e ∷ [])
noted_more [] e = refl
noted_more (called c r ∷ es) e = ap (λ l. called c r ∷ l) (noted_more es e)
noted_more (claimed t ∷ es) e = noted_more es e
noted_more (filed t m ∷ es) e = noted_more es e
noted_more (handed_back t ∷ es) e = noted_more es e

pub as_many_noted : (es : List Entry) → length (calls_noted es) ≡ calls_in es
as_many_noted [] = refl
as_many_noted (called c r ∷ es) = omega (arith, as_many_noted es)
as_many_noted (claimed t ∷ es) = as_many_noted es
as_many_noted (filed t m ∷ es) = as_many_noted es
as_many_noted (handed_back t ∷ es) = as_many_noted es

-- ---- steps

-- a step of a worker notes no call
module _ (d : Desk) (t : ℕ) where
  pub noted_claim : calls_noted (after_claim d t).history ≡ calls_noted d.history
  noted_claim = noted_more d.history (claimed t) ∙ append-nil (calls_noted d.history)

  pub noted_file : (p : Profile) (m : FileMark) → calls_noted (after_file p d t m).history ≡ calls_noted d.history
  noted_file p m = noted_more d.history (filed t m) ∙ append-nil (calls_noted d.history)

  pub noted_back : calls_noted (after_hand_back d t).history ≡ calls_noted d.history
  noted_back = noted_more d.history (handed_back t) ∙ append-nil (calls_noted d.history)

-- a call for which the log has room is noted at the end, with its reply
module _ (p : Profile) (d : Desk) (c : Call) where
  with_room : HasRoom d → (after_call p d c).history ≡ d.history ++ called c (reply_to p d c) ∷ []
  with_room room =
      let step = noted c (answer_of_call p d c) in
      let desk : after_call p d c ≡ step.0 = ap (λ o. (within_limits d o step).0) room in
      let reply : reply_to p d c ≡ step.1 = ap (λ o. (within_limits d o step).1) room in
      ap (λ (k : Desk). k.history) desk ∙ (λ i. call_notes p d c i ++ called c (sym reply i) ∷ [])

  pub noted_call : HasRoom d → calls_noted (after_call p d c).history ≡ calls_noted d.history
      ++ called c (reply_to p d c) ∷ []
  noted_call room = ap calls_noted (with_room room) ∙ noted_more d.history (called c (reply_to p d c))

  pub counted_call : HasRoom d → calls_in (after_call p d c).history ≡ calls_in d.history + 1
  counted_call room = ap calls_in (with_room room) ∙ calls_more d.history c (reply_to p d c)

-- ---- room

module _ (d : Desk) where
  abbrev own_check : LimitCheck
  own_check = check (calls_in d.history + 1) MOST_CALLS Calls

  abbrev past : Bool → Option Code
  past b = option_map code_of (option_map (λ (k : LimitCheck). k.refusal) (cond b (Some own_check) None))

  pub room_below : calls_in d.history < MOST_CALLS → HasRoom d
  room_below less = by (nat_lt MOST_CALLS (calls_in d.history + 1)) refl
    where
      by : (b : Bool) → nat_lt MOST_CALLS (calls_in d.history + 1) ≡ b → past b ≡ None
      by true e = absurd (grind (arith, nat_tests))
      by false e = refl

  pub below_room : HasRoom d → calls_in d.history + 1 ≤ MOST_CALLS
  below_room room = by (nat_lt MOST_CALLS (calls_in d.history + 1)) refl room
    where
      by : (b : Bool) → nat_lt MOST_CALLS (calls_in d.history + 1) ≡ b → past b ≡ None
          → calls_in d.history + 1 ≤ MOST_CALLS
      by true e h = absurd (cc)
      by false e h = grind (arith, nat_tests)

  -- a log that is full has no room
  pub full_below : MOST_CALLS ≤ calls_in d.history → ¬ (HasRoom d)
  full_below most room = omega (arith, most, below_room room)

  -- where the log is full the call is refused for that
  pub full_refused : (p : Profile) (c : Call) → MOST_CALLS ≤ calls_in d.history
      → reply_to p d c ≡ refused code.TooManyCalls
  full_refused p c most = by (nat_lt MOST_CALLS (calls_in d.history + 1)) refl
    where
      by : (b : Bool) → nat_lt MOST_CALLS (calls_in d.history + 1) ≡ b
          → (within_limits d (past b) (noted c (answer_of_call p d c))).1 ≡ refused code.TooManyCalls
      by true e = refl
      by false e = absurd (grind (arith, nat_tests))

  -- where the log is full the desk stays
  pub full_stays : (p : Profile) (c : Call) → MOST_CALLS ≤ calls_in d.history → after_call p d c ≡ d
  full_stays p c most = by (nat_lt MOST_CALLS (calls_in d.history + 1)) refl
    where
      by : (b : Bool) → nat_lt MOST_CALLS (calls_in d.history + 1) ≡ b
          → (within_limits d (past b) (noted c (answer_of_call p d c))).0 ≡ d
      by true e = refl
      by false e = absurd (grind (arith, nat_tests))

-- ---- legal histories

module _ (p : Profile) where
  abbrev IsWithin : Desk → Type 0
  IsWithin d = calls_in d.history ≤ MOST_CALLS

  most_next : (d d' : Desk) (e : Entry) → IsWithin d → EntryFollows p d e d' → IsWithin d'
  most_next d d' (called c r) h next = subst IsWithin (sym next.2)
      (omega (arith, counted_call p d c next.0, below_room d next.0))
  most_next d d' (claimed t) h next =
      subst IsWithin (sym (where_so (is_queued (held_at d.trials t)) (after_claim d t) d' next))
      (omega (arith, h, calls_claimed d.history t))
  most_next d d' (filed t m) h next =
      subst IsWithin (sym (where_so (is_running (held_at d.trials t)) (after_file p d t m) d' next))
      (omega (arith, h, calls_filed d.history t m))
  most_next d d' (handed_back t) h next =
      subst IsWithin (sym (where_so (is_running (held_at d.trials t)) (after_hand_back d t) d' next))
      (omega (arith, h, calls_handed_back d.history t))

  most_along : (d d' : Desk) (es : List Entry) → IsWithin d → IsLegal p d es d' → IsWithin d'
  most_along d d' [] h legal = subst IsWithin legal h
  most_along d d' (e ∷ es) h legal = most_along legal.0 d' es (most_next d legal.0 e h legal.1) legal.2

  -- a legal history notes no more calls than a log holds
  pub most_calls : (d : Desk) → IsLegalDesk p d → calls_in d.history ≤ MOST_CALLS
  most_calls d legal = most_along no_desk d d.history (omega arith) legal
