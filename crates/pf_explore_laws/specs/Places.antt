-- Places: configurations, each with the steps that are left; what a set of them says of the runs from them.
use Rattle.std.specs.Prelude.{◌≡◌, ℕ, suc, ◌+◌, ◌-◌, ◌≤◌, Bool, true, false, List, [], Contains, map}
use Rattle.pf_model.specs.Choosers.{Chooser}
use Rattle.pf_model.specs.Module.{Module}
use Rattle.pf_model.specs.Configuration.{Configuration}
use Rattle.pf_model.specs.Labels.{Label}
use Rattle.pf_model.specs.Properties.{Property, returns, returns_true, no_crash, no_deadlock, within_limit, never}
use Rattle.pf_model.specs.Properties.{holds, is_crash, is_sent_as}
use Rattle.pf_model.specs.Runs.{Passed, Passes, Transition, Run, Stops, enabled, start}
use Rattle.pf_model.specs.Meaning.{outcome_of, Job}
use Rattle.pf_model.specs.declared.report.Actor.{Actor}
use Rattle.pf_explore_laws.specs.Schedules.{HoldsByEach}

-- a label by which a property fails, whatever else a run shows
abbrev pub breaks : Property → Label → Bool
breaks returns l = false
breaks returns_true l = false
breaks no_crash l = is_crash l
breaks no_deadlock l = false
breaks within_limit l = false
breaks (never p) l = is_sent_as p l

-- a property holds of each run from here within n steps, whatever chooses
abbrev pub HoldsByAll : (S : Type 0) → Module → Property → ℕ → Configuration → Type 0
HoldsByAll S m p n c =
    (choose : Chooser S) (s : S) (ts : List Transition) (d : Configuration) (k : ℕ) (t : S)
    → Run m choose s n c ts d k t → holds p (map (λ t. t.label) ts) (outcome_of d) ≡ true

-- ---- configurations with the steps that are left

-- what follows a place by a transition is there too, by no label that breaks the property; where a run stops, it holds
pub record IsClosed (m : Module) (p : Property) (N : ℕ → Configuration → Type 0) : Type 0 where
  pub goes : (n : ℕ) (c : Configuration) (x : Actor) (q : Passed) → N (suc n) c → Contains (enabled c) x
      → Passes m (suc n) c x q → (breaks p q.label ≡ false) × N (suc n - q.used) q.after
  pub stops : (n : ℕ) (c : Configuration) → N n c → Stops n c → holds p [] (outcome_of c) ≡ true

-- the property holds of each run from a place of a closed set
abbrev pub ClosedPlacesHold : (S : Type 0) → Type 0
ClosedPlacesHold S =
    (m : Module) (p : Property) (places : List (ℕ × Configuration)) → IsClosed m p (λ n c. Contains places (n, c))
    → (n : ℕ) (c : Configuration) → Contains places (n, c) → HoldsByAll S m p n c

-- ---- configurations alone

-- each configuration is there with a number of steps that all runs from it keep within; so long as that many are left,
-- what follows is there too, with no more than what is left of its number
pub record IsBounded (m : Module) (p : Property) (bounds : List (Configuration × ℕ)) : Type 0 where
  pub goes : (n : ℕ) (c : Configuration) (b : ℕ) (x : Actor) (q : Passed) → Contains bounds (c, b) → b ≤ suc n
      → Contains (enabled c) x → Passes m (suc n) c x q
      → (breaks p q.label ≡ false) × ((e : ℕ) × (e + q.used ≤ b) × Contains bounds (q.after, e))
  pub stops : (n : ℕ) (c : Configuration) (b : ℕ) → Contains bounds (c, b) → b ≤ n → Stops n c
      → holds p [] (outcome_of c) ≡ true

-- the property holds of each run from such a configuration with as many steps left
abbrev pub BoundedConfigurationsHold : (S : Type 0) → Type 0
BoundedConfigurationsHold S =
    (m : Module) (p : Property) (bounds : List (Configuration × ℕ)) → IsBounded m p bounds
    → (n : ℕ) (c : Configuration) (b : ℕ) → Contains bounds (c, b) → b ≤ n → HoldsByAll S m p n c

-- ---- jobs

-- the property of a job holds by each schedule, if its start is in a closed set
abbrev pub ClosedPlacesHoldOfJobs : Type 0
ClosedPlacesHoldOfJobs =
    (j : Job) (places : List (ℕ × Configuration)) → IsClosed j.code j.property (λ n c. Contains places (n, c))
    → Contains places (j.limit, start j.root j.edition) → HoldsByEach j
