-- Steps that a process takes by itself are before the turn that goes on from there.
use Rattle.std.proofs.Common.{◌≡◌, ℕ, zero, suc, ◌+◌, ◌-◌, ◌≤◌, subst, arith}
use Rattle.pf_model.specs.Module.{Module}
use Rattle.pf_model.specs.Context as index
use Rattle.pf_model.specs.Context.{ProcessState, running, waiting, ending, ended, goes_on, asks, awaits}
use Rattle.pf_model.specs.Configuration.{Core}
use Rattle.pf_model.specs.Deliveries.{Deed}
use Rattle.pf_model.specs.Turns.{Turn, contraction}
use Rattle.pf_stepper.specs.MicroSteps.{Contracts}
use Rattle.pf_stepper.specs.Advanced.{Steps, no_step, one_more}

module _ (m : Module) (a : ℕ) (c : Core) where
  -- a turn of a process that goes on by itself
  abbrev pub TurnFrom : ℕ → index.Move → Deed → ℕ → Type 0
  TurnFrom n (goes_on s) d j = Turn m a c n s d j
  TurnFrom n x d j = ⊥

  step_before : (n j : ℕ) (d : Deed) (q r : index.Move) → Contracts m a q r → TurnFrom n r d j
      → TurnFrom (suc n) q d (suc j)
  step_before n j d (goes_on (running t)) (goes_on s) h k = contraction n j t s d h k
  step_before n j d (goes_on (running t)) (asks fs x) h k = absurd k
  step_before n j d (goes_on (running t)) (awaits fs ks) h k = absurd k
  step_before n j d (goes_on (running t)) (index.returns w) h k = absurd k
  step_before n j d (goes_on (waiting t)) r h k = absurd h
  step_before n j d (goes_on (ending w)) r h k = absurd h
  step_before n j d (goes_on (ended e)) r h k = absurd h
  step_before n j d (asks fs x) r h k = absurd h
  step_before n j d (awaits fs ks) r h k = absurd h
  step_before n j d (index.returns w) r h k = absurd h

  pub steps_before : (n j : ℕ) (d : Deed) (i : ℕ) (p q : index.Move) → Steps m a i p q → TurnFrom n q d j
      → TurnFrom (i + n) p d (i + j)
  steps_before n j d _ _ _ (no_step p) k =
      let x : n ≡ zero + n = omega arith in
      let y : j ≡ zero + j = omega arith in
      subst (λ z. TurnFrom z p d (zero + j)) x (subst (TurnFrom n p d) y k)
  steps_before n j d _ _ _ (one_more i p q r s h) k =
      let x : i + suc n ≡ suc i + n = omega arith in
      let y : i + suc j ≡ suc i + j = omega arith in
      subst (λ z. TurnFrom z p d (suc i + j)) x
      (subst (TurnFrom (i + suc n) p d) y (steps_before (suc n) (suc j) d i p q s (step_before n j d q r h k)))

  -- a turn whose last step is after n steps by itself
  pub turn_after : (left used i : ℕ) (s t : ProcessState) (d : Deed) → used ≡ suc i → used ≤ left
      → Steps m a i (goes_on s) (goes_on t)
      → ((n : ℕ) → Turn m a c (suc n) t d 1) → Turn m a c left s d used
  turn_after left used i s t d e l h last =
      let x : i + suc (left - used) ≡ left = omega arith in
      let y : i + 1 ≡ used = omega arith in
      subst (λ z. Turn m a c z s d used) x
      (subst (Turn m a c (i + suc (left - used)) s d) y
      (steps_before (suc (left - used)) 1 d i (goes_on s) (goes_on t) h (last (left - used))))
