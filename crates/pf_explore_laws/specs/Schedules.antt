-- Jobs of which no schedule fails.
use Rattle.std.specs.Prelude.{◌≡◌, ℕ, suc, ◌≤◌, ◌==◌, true, if◌then◌else◌, List, [], ◌∷◌, Some}
use Rattle.pf_model.specs.Choosers.{Chooser}
use Rattle.pf_model.specs.Meaning.{Job, Choices, Event, Report, Means, MeansBy}
use Rattle.pf_model.specs.Shrinking.{by_schedule}

-- the property of a job holds by each schedule
abbrev pub HoldsByEach : Job → Type 0
HoldsByEach j = (ns : List ℕ) (r : Report) → Means (by_schedule j ns) r → r.verdict ≡ Some true

-- the events at which another than the first of those who might go went
abbrev pub deviations : List Event → ℕ
deviations [] = 0
deviations (e ∷ es) = if e.choice == 0 then deviations es else suc (deviations es)

-- it holds by each schedule whose run deviates at most k times
abbrev pub HoldsWithin : ℕ → Job → Type 0
HoldsWithin k j = (ns : List ℕ) (r : Report) → Means (by_schedule j ns) r → deviations r.events ≤ k
    → r.verdict ≡ Some true

-- ---- laws

-- where no schedule of a job fails, it fails by no chooser from any state
abbrev pub NoChooserFails : (S : Type 0) → Type 0
NoChooserFails S = (j : Job) → HoldsByEach j → (choose : Chooser S) (s : S) (r : Report) → MeansBy choose s j r
    → r.verdict ≡ Some true

-- and by no choices of its own, of a seed or of a seed and weights
abbrev pub NoSeedFails : Type 0
NoSeedFails = (j : Job) → HoldsByEach j → (cs : Choices) (r : Report) → Means (record j { choices = cs }) r
    → r.verdict ≡ Some true

-- where none fails that deviates at most k times, no chooser does by which a run deviates no oftener
abbrev pub NoChooserFailsWithin : (S : Type 0) → Type 0
NoChooserFailsWithin S = (k : ℕ) (j : Job) → HoldsWithin k j → (choose : Chooser S) (s : S) (r : Report)
    → MeansBy choose s j r → deviations r.events ≤ k → r.verdict ≡ Some true

-- what holds of the runs that deviate no oftener than the limit has steps holds by each schedule
abbrev pub AllIsWithinTheLimit : Type 0
AllIsWithinTheLimit = (j : Job) → HoldsWithin j.limit j → HoldsByEach j
