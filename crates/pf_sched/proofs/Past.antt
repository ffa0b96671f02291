-- A run that goes on has more transitions to come, and no run has more than its steps.
use Rattle.std.proofs.Common.{◌≡◌, ◌⊎◌, inl, inr, ℕ, zero, suc, ◌+◌, ◌-◌, ◌<◌, ◌≤◌, List, [], ◌∷◌, ◌++◌, length, Some}
use Rattle.std.proofs.Common.{refl, sym, ap, ◌∙◌, subst, arith}
use Rattle.std.specs.Prelude.{slice_get}
use Rattle.std.proofs.Math.Nat.{sub-zero}
use Rattle.pf_model.specs.Choosers.{Chooser}
use Rattle.pf_model.specs.Module.{Module}
use Rattle.pf_model.specs.Configuration.{Configuration}
use Rattle.pf_model.specs.Evaluation.{pass_of}
use Rattle.pf_model.specs.Runs.{Passed, Passes, Transition, transition, next_choice, next_state, Goes, stays, more}
use Rattle.pf_model.specs.Runs.{Stops, enabled}
use Rattle.pf_model.specs.declared.report.Actor.{Actor}
use Rattle.pf_model.proofs.Turned.{pass_only, pass_uses}

-- each transition takes a step at least
pub within_steps : {S : Type 0} (m : Module) (choose : Chooser S) (s : S) (n : ℕ) (c : Configuration)
    (ts : List Transition) (d : Configuration) (k : ℕ) (t : S)
    → Goes m choose s n c ts d k t → length ts ≤ n
within_steps m choose _ _ _ _ _ _ _ (stays s n c) = omega arith
within_steps m choose _ _ _ _ _ _ _ (more s n c x p ts d k t e pass rest) =
    let one = pass_uses m n c x p pass in
    let more = within_steps m choose (next_state choose s c) (suc n - p.used) p.after ts d k t rest in
    omega arith

-- so there are no more transitions than steps
pub as_many_steps : {S : Type 0} (m : Module) (choose : Chooser S) (s : S) (n : ℕ) (c : Configuration)
    (ts : List Transition) (d : Configuration) (k : ℕ) (t : S)
    → Goes m choose s n c ts d k t → length ts ≤ k
as_many_steps m choose _ _ _ _ _ _ _ (stays s n c) = omega arith
as_many_steps m choose _ _ _ _ _ _ _ (more s n c x p ts d k t e pass rest) =
    let one = pass_uses m n c x p pass in
    let more = as_many_steps m choose (next_state choose s c) (suc n - p.used) p.after ts d k t rest in
    omega arith

module _ {S : Type 0} (m : Module) (choose : Chooser S) where
  -- no transition was made
  record None (n : ℕ) (c : Configuration) (d : Configuration) (k : ℕ) : Type 0 where
    same : d ≡ c
    unused : k ≡ zero

  -- one was made, and then others
  record First (s : S) (n : ℕ) (c : Configuration) (ts : List Transition) (d : Configuration) (k : ℕ)
      (t : S) : Type 0 where
    left : ℕ
    actor : Actor
    passed : Passed
    others : List Transition
    steps : ℕ
    some : n ≡ suc left
    events : ts ≡ transition (next_choice choose s c) (enabled c) actor passed ∷ others
    sums : k ≡ passed.used + steps
    chosen : slice_get (enabled c) (next_choice choose s c) ≡ Some actor
    passes : Passes m n c actor passed
    rest : Goes m choose (next_state choose s c) (n - passed.used) passed.after others d steps t

  first_of : (s : S) (n : ℕ) (c : Configuration) (ts : List Transition) (d : Configuration) (k : ℕ) (t : S)
      → Goes m choose s n c ts d k t
      → None n c d k ⊎ First s n c ts d k t
  first_of _ _ _ _ _ _ _ (stays s n c) = inl (record { same = refl; unused = refl })
  first_of _ _ _ _ _ _ _ (more s n c x p ts d k t e pass rest) = inr (record {
    left = n;
    actor = x;
    passed = p;
    others = ts;
    steps = k;
    some = refl;
    events = refl;
    sums = refl;
    chosen = e;
    passes = pass;
    rest = rest;
  })

  same_actor : (x y : Actor) → Some x ≡ Some y → x ≡ y
  same_actor x y e = cc

  nobody : (xs : List Actor) (k : ℕ) (x : Actor) → slice_get xs k ≡ Some x → xs ≡ [] → ⊥
  nobody [] k x e h = cc
  nobody (y ∷ ys) k x e h = cc

  -- who goes first in a run goes first in each run from the same state that stops
  goes_first : (s : S) (n : ℕ) (c : Configuration) (x : Actor) (p : Passed)
      → slice_get (enabled c) (next_choice choose s c) ≡ Some x → Passes m (suc n) c x p
      → (us : List Transition) (e : Configuration) (l : ℕ) (u : S) → Goes m choose s (suc n) c us e l u
      → Stops (suc n - l) e
      → (others : List Transition) × (steps : ℕ) × (us ≡ transition (next_choice choose s c) (enabled c) x p ∷ others)
      × Goes m choose (next_state choose s c) (suc n - p.used) p.after others e steps u
      × Stops (suc n - p.used - steps) e
  goes_first s n c x p chosen pass us e l u whole stops = by (first_of s (suc n) c us e l u whole)
    where
      is_there : None (suc n) c e l → Stops (suc n) c
      is_there none = subst (λ z. Stops z c) (sub-zero (suc n))
          (subst (λ z. Stops (suc n - z) c) none.unused (subst (λ z. Stops (suc n - l) z) none.same stops))

      never : Stops (suc n) c → ⊥
      never (inl h) = nobody (enabled c) (next_choice choose s c) x chosen h
      never (inr h) = omega arith

      by : None (suc n) c e l ⊎ First s (suc n) c us e l u
          → (others : List Transition) × (steps : ℕ)
          × (us ≡ transition (next_choice choose s c) (enabled c) x p ∷ others)
          × Goes m choose (next_state choose s c) (suc n - p.used) p.after others e steps u
          × Stops (suc n - p.used - steps) e
      by (inl none) = absurd (never (is_there none))
      by (inr first) =
          let actor = same_actor first.actor x (sym first.chosen ∙ chosen) in
          let same : first.passed ≡ p =
          sym (pass_only m (suc n) c first.actor first.passed first.passes)
          ∙ ap (pass_of m (suc n) c) actor ∙ pass_only m (suc n) c x p pass in
          let left : suc n - l ≡ suc n - first.passed.used - first.steps = (let s = first.sums in omega arith) in (
            first.others,
            first.steps,
            first.events ∙ ap (λ a. transition (next_choice choose s c) (enabled c) a first.passed ∷ first.others) actor
                ∙ ap (λ z. transition (next_choice choose s c) (enabled c) x z ∷ first.others) same,
            subst (λ z. Goes m choose (next_state choose s c) (suc n - z.used) z.after first.others e first.steps u)
                same first.rest,
            subst (λ z. Stops (suc n - z.used - first.steps) e) same (subst (λ z. Stops z e) left stops),
          )

  -- where a run does not stop, a run from the same state that stops has more transitions
  pub longer : (s : S) (n : ℕ) (c : Configuration) (ts : List Transition) (d : Configuration) (k : ℕ) (t : S)
      → Goes m choose s n c ts d k t → (Stops (n - k) d → ⊥)
      → (us : List Transition) (e : Configuration) (l : ℕ) (u : S) → Goes m choose s n c us e l u → Stops (n - l) e
      → length ts < length us
  longer _ _ _ _ _ _ _ (stays s n c) goes us e l u whole stops = by (first_of s n c us e l u whole)
    where
      by : None n c e l ⊎ First s n c us e l u → 0 < length us
      by (inl none) = absurd (goes (subst (λ z. Stops (n - z) c) none.unused
          (subst (λ z. Stops (n - l) z) none.same stops)))
      by (inr first) = let h = ap length first.events in omega arith
  longer _ _ _ _ _ _ _ (more s n c x p ts d k t chosen pass rest) goes us e l u whole stops =
      let first = goes_first s n c x p chosen pass us e l u whole stops in
      let later = longer (next_state choose s c) (suc n - p.used) p.after ts d k t rest goes_later first.0 e first.1 u
      first.3 first.4 in
      let counts = ap length first.2 in
      omega arith
    where
      goes_later : Stops (suc n - p.used - k) d → ⊥
      goes_later h = goes (let q : suc n - p.used - k ≡ suc n - (p.used + k) = omega arith in
          subst (λ z. Stops z d) q h)

  -- the transitions of a run are the first of those of each run from the same state that stops
  pub first_transitions : (s : S) (n : ℕ) (c : Configuration) (ts : List Transition) (d : Configuration) (k : ℕ) (t : S)
      → Goes m choose s n c ts d k t
      → (us : List Transition) (e : Configuration) (l : ℕ) (u : S) → Goes m choose s n c us e l u → Stops (n - l) e
      → (rest : List Transition) × (us ≡ ts ++ rest)
  first_transitions _ _ _ _ _ _ _ (stays s n c) us e l u whole stops = (us, refl)
  first_transitions _ _ _ _ _ _ _ (more s n c x p ts d k t chosen pass rest) us e l u whole stops =
      let first = goes_first s n c x p chosen pass us e l u whole stops in
      let later = first_transitions (next_state choose s c) (suc n - p.used) p.after ts d k t rest first.0 e first.1 u
      first.3 first.4 in (
        later.0,
        first.2 ∙ ap (λ (vs : List Transition). transition (next_choice choose s c) (enabled c) x p ∷ vs)
            later.1,
      )
