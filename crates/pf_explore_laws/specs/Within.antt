-- What a set of places with deviations left says of the runs that deviate no oftener.
use Rattle.std.specs.Prelude.{◌≡◌, ℕ, suc, ◌-◌, ◌≤◌, ◌==◌, true, false, List, [], Contains, map, Some, slice_get}
use Rattle.pf_model.specs.Choosers.{Chooser}
use Rattle.pf_model.specs.Module.{Module}
use Rattle.pf_model.specs.Configuration.{Configuration}
use Rattle.pf_model.specs.Properties.{Property, holds}
use Rattle.pf_model.specs.Runs.{Passed, Passes, Transition, Run, Stops, enabled, start}
use Rattle.pf_model.specs.Meaning.{outcome_of, event_of_transition, Job}
use Rattle.pf_model.specs.declared.report.Actor.{Actor}
use Rattle.pf_explore_laws.specs.Schedules.{deviations, HoldsWithin}
use Rattle.pf_explore_laws.specs.Places.{breaks}

-- a property holds of each run from here that deviates at most k times
abbrev pub HoldsByFew : (S : Type 0) → Module → Property → (k n : ℕ) → Configuration → Type 0
HoldsByFew S m p k n c =
    (choose : Chooser S) (s : S) (ts : List Transition) (d : Configuration) (j : ℕ) (t : S)
    → Run m choose s n c ts d j t → deviations (map event_of_transition ts) ≤ k
    → holds p (map (λ t. t.label) ts) (outcome_of d) ≡ true

-- what the first choice does is there with as many deviations left, and what another does with one less, if one is left
pub record IsClosedWithin (m : Module) (p : Property) (N : ℕ → ℕ → Configuration → Type 0) : Type 0 where
  pub first : (k n i : ℕ) (c : Configuration) (x : Actor) (q : Passed) → N k (suc n) c → (i == 0) ≡ true
      → slice_get (enabled c) i ≡ Some x → Passes m (suc n) c x q
      → (breaks p q.label ≡ false) × N k (suc n - q.used) q.after
  pub other : (k n i : ℕ) (c : Configuration) (x : Actor) (q : Passed) → N (suc k) (suc n) c → (i == 0) ≡ false
      → slice_get (enabled c) i ≡ Some x → Passes m (suc n) c x q
      → (breaks p q.label ≡ false) × N k (suc n - q.used) q.after
  pub stops : (k n : ℕ) (c : Configuration) → N k n c → Stops n c → holds p [] (outcome_of c) ≡ true

-- a place with the deviations that are left
abbrev pub RoomyPlace : Type 0
RoomyPlace = ℕ × (ℕ × Configuration)

-- the property holds of each run from such a place that deviates no oftener
abbrev pub ClosedPlacesHoldWithin : (S : Type 0) → Type 0
ClosedPlacesHoldWithin S =
    (m : Module) (p : Property) (places : List RoomyPlace) → IsClosedWithin m p (λ k n c. Contains places (k, (n, c)))
    → (k n : ℕ) (c : Configuration) → Contains places (k, (n, c)) → HoldsByFew S m p k n c

-- the property of a job holds within k deviations, if its start is in such a set with k left
abbrev pub ClosedPlacesHoldWithinOfJobs : Type 0
ClosedPlacesHoldWithinOfJobs =
    (j : Job) (k : ℕ) (places : List RoomyPlace)
    → IsClosedWithin j.code j.property (λ k n c. Contains places (k, (n, c)))
    → Contains places (k, (j.limit, start j.root j.edition)) → HoldsWithin k j
