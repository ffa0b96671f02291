-- A trial that is gone was dropped, and wasn't claimed after that.
use Rattle.std.proofs.Common.{◌≡◌, ◌⊎◌, ℕ, ◌==◌, Bool, true, false, true≢false, List, [], ◌∷◌, ◌++◌, Some, None, refl}
use Rattle.std.proofs.Common.{sym, ap, append_assoc, ⊎_elim, inl, inr, ◌∙◌, subst, arith}
use Rattle.std.specs.Prelude.{if◌then◌else◌}
use Rattle.pf_request.specs.Calls.{drop_trial}
use Rattle.pf_desks.specs.Desk.{Profile, Desk, no_desk, Entry, called, claimed, filed, handed_back, given_up, held_at}
use Rattle.pf_desks.specs.Calls.{after_call, reply_to}
use Rattle.pf_desks.specs.Work.{is_queued, is_running, after_claim, after_file, after_hand_back}
use Rattle.pf_desks.specs.History.{EntryFollows, IsLegal}
use Rattle.pf_desks.proofs.Always.{where_so}
use Rattle.pf_farm_laws.specs.Tally.{one_if}
use Rattle.pf_farm_laws.specs.ClaimNotes.{is_claim, IsDropped}
use Rattle.pf_farm_laws.specs.Gone.{IsGone, DropsAreNoted}
use Rattle.pf_farm_laws.proofs.Lists.{same_by, tally_append}
use Rattle.pf_farm_laws.proofs.Trials.{turns_called, gone_before, gone_without_state}

pub append_nil : {X : Type 0} (xs : List X) → xs ++ [] ≡ xs
append_nil [] = refl
append_nil (x ∷ xs) = ap (λ l. x ∷ l) (append_nil xs)

-- only what is so leads on
pub is_so : (b : Bool) (k d : Desk) → (if b then Some k else None) ≡ Some d → b ≡ true
is_so true k d h = refl
is_so false k d h = absurd (cc)

module _ (p : Profile) where
  -- what is gone after a note was gone before and isn't claimed by it, or is dropped by it
  gone_then : (d k : Desk) (e : Entry) (t : ℕ) → EntryFollows p d e k → IsGone k t
      → (IsGone d t × (is_claim t e ≡ false)) ⊎ (e ≡ called (drop_trial t) given_up)
  gone_then d k (called c r) t h g =
      let now : IsGone (after_call p d c) t = subst (λ x. IsGone x t) h.2 g in
      ⊎_elim (λ (old : IsGone d t). inl (old, refl)) (λ (new : (c ≡ drop_trial t) × (reply_to p d c ≡ given_up)).
      inr (λ i. called (new.0 i) ((h.1 ∙ new.1) i)))
      (gone_before d.trials c (reply_to p d c) (after_call p d c).trials t (turns_called p d c) now)
  gone_then d k (claimed u) t h g =
      let waits : is_queued (held_at d.trials u) ≡ true =
      is_so (is_queued (held_at d.trials u)) (after_claim d u) k h in
      let now : IsGone (after_claim d u) t = subst (λ x. IsGone x t)
      (where_so (is_queued (held_at d.trials u)) (after_claim d u) k h) g in
      let old : IsGone d t = gone_without_state d.trials u _ t now in
      inl (old, by (u == t) refl waits old)
    where
      by : (b : Bool) → (u == t) ≡ b → is_queued (held_at d.trials u) ≡ true → IsGone d t → (u == t) ≡ false
      by true is waits old = absurd (true≢false (sym waits ∙ ap (λ n. is_queued (held_at d.trials n)) (same_by u t is)
          ∙ ap is_queued old.2))
      by false not waits old = not
  gone_then d k (filed u m) t h g =
      let now : IsGone (after_file p d u m) t =
      subst (λ x. IsGone x t) (where_so (is_running (held_at d.trials u)) (after_file p d u m) k h) g in
      inl (gone_without_state d.trials u _ t now, refl)
  gone_then d k (handed_back u) t h g =
      let now : IsGone (after_hand_back d u) t =
      subst (λ x. IsGone x t) (where_so (is_running (held_at d.trials u)) (after_hand_back d u) k h) g in
      inl (gone_without_state d.trials u _ t now, refl)

  more_noted : (es : List Entry) (e : Entry) (t : ℕ) → IsDropped t es → is_claim t e ≡ false
      → IsDropped t (es ++ e ∷ [])
  more_noted es e t h no_claim = (
    h.0,
    h.1 ++ e ∷ [],
    ap (λ l. l ++ e ∷ []) h.2 ∙ append_assoc h.0 (called (drop_trial t) given_up ∷ h.1) (e ∷ []),
    (let none : one_if (is_claim t e) ≡ 0 = ap one_if no_claim in
        omega (arith, h.3, none, tally_append (is_claim t) h.1 (e ∷ []))),
  )

  noted_along : (d : Desk) (before es : List Entry) (d' : Desk) → ((t : ℕ) → IsGone d t → IsDropped t before)
      → IsLegal p d es d' → (t : ℕ) → IsGone d' t → IsDropped t (before ++ es)
  noted_along d before [] d' old h t g = subst (IsDropped t) (sym (append_nil before))
      (old t (subst (λ x. IsGone x t) (sym h) g))
  noted_along d before (e ∷ es) d' old h t g =
      subst (IsDropped t) (append_assoc before (e ∷ []) es) (noted_along h.0 (before ++ e ∷ []) es d' next h.2 t g)
    where
      next : (u : ℕ) → IsGone h.0 u → IsDropped u (before ++ e ∷ [])
      next u now = ⊎_elim (λ (x : IsGone d u × (is_claim u e ≡ false)). more_noted before e u (old u x.0) x.1)
          (λ (is : e ≡ called (drop_trial u) given_up). (before, [], ap (λ x. before ++ x ∷ []) is, refl))
          (gone_then d h.0 e u h.1 now)

pub drops_are_noted : DropsAreNoted
drops_are_noted p d t legal g = noted_along p no_desk [] d.history d
    (λ u gone. absurd (omega (arith, gone.0, gone.1))) legal t g
