-- What a chore leaves at a hand and a deque, and when it can't be done.
use Rattle.std.proofs.Common.{◌≡◌, ℕ, Bool, true, false, ◌&&◌, Option, Some, None, refl, sym, ap, ◌∙◌, subst}
use Rattle.std.specs.Prelude.{if◌then◌else◌, IfSome, nat_lt, length, [], ◌∷◌, ◌++◌}
use Rattle.pf_request.specs.Job.{Job}
use Rattle.pf_desks.specs.Desk.{Trial, Desk, held_at}
use Rattle.pf_desks.specs.declared.mark.FileMark.{FileMark}
use Rattle.pf_desks.specs.Work.{is_queued, after_claim, claim_step, file_step, hand_back_step}
use Rattle.pf_book.specs.Queued.{job_at}
use Rattle.pf_book.proofs.Worked.{is_waiting, none_waiting, queued_at}
use Rattle.pf_pool.proofs.Own.{own_job}
use Rattle.pf_world.specs.World.{RunProfile, RunProgress, going, over, ClaimedRun, Hand, Deque}
use Rattle.pf_world.specs.Chores.{Effect, MOST_PARKED, new_run, is_run_of, is_going, sliced, in_hand, onto_deque}
use Rattle.pf_world.specs.Chores.{claimed_as, hand_emptied, claim_effect, file_effect, chore_effect}
use Rattle.pf_request.specs.declared.step.Chore.TheVariants.{Claim, Slice, Park, File, HandBack}
use Rattle.pf_pool.specs.Hands.{is_free, hand_holds, holds_going}

-- ---- tests

both : (a g c : Bool) (x : Effect) → (a && g) ≡ true → c ≡ true
    → (if a then (if g && c then Some x else None) else None) ≡ Some x
both true true true x h i = refl
both true true false x h i = absurd (cc)
both true false c x h i = absurd (cc)
both false g c x h i = absurd (cc)

not_first : (a g c : Bool) (x : Effect) → (a && g) ≡ false
    → (if a then (if g && c then Some x else None) else None) ≡ None
not_first true true c x h = absurd (cc)
not_first true false c x h = refl
not_first false g c x h = refl

not_second : (a g c : Bool) (x : Effect) → c ≡ false → (if a then (if g && c then Some x else None) else None) ≡ None
not_second true true true x h = absurd (cc)
not_second true true false x h = refl
not_second true false c x h = refl
not_second false g c x h = refl

module _ (p : RunProfile) (q t : ℕ) (d : Desk) where
  -- ---- claims

  pub claim_busy : (h : Hand) (rs : Deque) → is_free (Some h) ≡ false → chore_effect p q t Claim d h rs ≡ None
  claim_busy None rs h = absurd (cc)
  claim_busy (Some r) rs h = by (is_run_of q t r)
    where
      by : (b : Bool) → (if◌then◌else◌ {A = Option Effect} b None None) ≡ None
      by true = refl
      by false = refl

  pub claim_unqueued : (rs : Deque) → job_at d.trials t ≡ None → chore_effect p q t Claim d None rs ≡ None
  claim_unqueued rs h =
      ap (λ (b : Bool). claim_effect q t (held_at d.trials t) (if b then Some (after_claim d t) else None))
      (none_waiting d.trials t h)
      ∙ by (held_at d.trials t)
    where
      by : (o : Option Trial) → claim_effect q t o None ≡ None
      by None = refl
      by (Some x) = refl

  pub claim_queued : (j : Job) (rs : Deque) → job_at d.trials t ≡ Some j
      → chore_effect p q t Claim d None rs ≡ Some (claimed_as (after_claim d t) (new_run q t j))
  claim_queued j rs h =
      let waits = is_waiting d.trials t j h in
      let a = queued_at (held_at d.trials t) waits in
      let same : j ≡ a.trial.job = subst (λ (o : Option Trial). IfSome o (λ x. j ≡ x.job)) a.is
      (own_job d.trials t j j h refl) in
      let claims : claim_step d t ≡ Some (after_claim d t) =
      ap (λ (b : Bool). if b then Some (after_claim d t) else None) waits in
      (λ n. claim_effect q t (a.is n) (claims n))
      ∙ ap (λ (i : Job). Some (claimed_as (after_claim d t) (new_run q t i))) (sym same)

  -- ---- slices

  pub slice_none : (n : ℕ) (h : Hand) (rs : Deque) → holds_going q t h ≡ false
      → chore_effect p q t (Slice n) d h rs ≡ None
  slice_none n None rs h = refl
  slice_none n (Some r) rs h = not_first (is_run_of q t r) (is_going r.progress) (nat_lt 0 n) (in_hand (sliced p n r)) h

  pub slice_zero : (n : ℕ) (h : Hand) (rs : Deque) → nat_lt 0 n ≡ false → chore_effect p q t (Slice n) d h rs ≡ None
  slice_zero n None rs h = refl
  slice_zero n (Some r) rs h = not_second (is_run_of q t r) (is_going r.progress) (nat_lt 0 n)
      (in_hand (sliced p n r)) h

  pub slice_does : (n : ℕ) (r : ClaimedRun) (rs : Deque) → holds_going q t (Some r) ≡ true → nat_lt 0 n ≡ true
      → chore_effect p q t (Slice n) d (Some r) rs ≡ Some (in_hand (sliced p n r))
  slice_does n r rs h i = both (is_run_of q t r) (is_going r.progress) (nat_lt 0 n) (in_hand (sliced p n r)) h i

  -- ---- parkings

  pub park_none : (h : Hand) (rs : Deque) → holds_going q t h ≡ false → chore_effect p q t Park d h rs ≡ None
  park_none None rs h = refl
  park_none (Some r) rs h = not_first (is_run_of q t r) (is_going r.progress) (nat_lt (length rs) MOST_PARKED)
      (onto_deque r rs) h

  pub park_full : (h : Hand) (rs : Deque) → nat_lt (length rs) MOST_PARKED ≡ false
      → chore_effect p q t Park d h rs ≡ None
  park_full None rs h = refl
  park_full (Some r) rs h = not_second (is_run_of q t r) (is_going r.progress) (nat_lt (length rs) MOST_PARKED)
      (onto_deque r rs) h

  pub park_does : (r : ClaimedRun) (rs : Deque) → holds_going q t (Some r) ≡ true
      → nat_lt (length rs) MOST_PARKED ≡ true
      → chore_effect p q t Park d (Some r) rs ≡ Some (onto_deque r rs)
  park_does r rs h i = both (is_run_of q t r) (is_going r.progress) (nat_lt (length rs) MOST_PARKED)
      (onto_deque r rs) h i

  -- ---- files

  pub file_not_held : (h : Hand) (rs : Deque) → hand_holds q t h ≡ false → chore_effect p q t File d h rs ≡ None
  file_not_held None rs h = refl
  file_not_held (Some r) rs h = ap (λ (b : Bool). if b then file_effect p t d r.progress else None) h

  pub file_going : (h : Hand) (rs : Deque) → holds_going q t h ≡ true → chore_effect p q t File d h rs ≡ None
  file_going None rs h = absurd (cc)
  file_going (Some r) rs h = by (is_run_of q t r) r.progress h
    where
      by : (b : Bool) (g : RunProgress) → (b && is_going g) ≡ true → (if b then file_effect p t d g else None) ≡ None
      by true (going k) i = refl
      by true (over m) i = absurd (cc)
      by false g i = absurd (cc)

  pub file_does : (r : ClaimedRun) (rs : Deque) (m : FileMark) → is_run_of q t r ≡ true → r.progress ≡ over m
      → chore_effect p q t File d (Some r) rs ≡ Some (hand_emptied (file_step p.profile d t m))
  file_does r rs m own is =
      ap (λ (b : Bool). if b then file_effect p t d r.progress else None) own
      ∙ ap (λ (g : RunProgress). file_effect p t d g) is

  -- ---- hand-backs

  pub back_none : (h : Hand) (rs : Deque) → hand_holds q t h ≡ false → chore_effect p q t HandBack d h rs ≡ None
  back_none None rs h = refl
  back_none (Some r) rs h = ap (λ (b : Bool). if b then Some (hand_emptied (hand_back_step d t)) else None) h

  pub back_does : (h : Hand) (rs : Deque) → hand_holds q t h ≡ true
      → chore_effect p q t HandBack d h rs ≡ Some (hand_emptied (hand_back_step d t))
  back_does None rs h = absurd (cc)
  back_does (Some r) rs h = ap (λ (b : Bool). if b then Some (hand_emptied (hand_back_step d t)) else None) h
