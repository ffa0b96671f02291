-- Jobs of which no schedule fails where a process goes last, if one is named: it goes only where nobody else may.
use Rattle.std.specs.Prelude.{◌≡◌, ℕ, suc, ◌≤◌, ◌==◌, true, if◌then◌else◌, List, [], ◌∷◌, Option, None, Some}
use Rattle.pf_model.specs.Choosers.{Chooser}
use Rattle.pf_model.specs.Meaning.{Job, MeansBy, Report}
use Rattle.pf_strategy.specs.Last.{keep_named}
use Rattle.pf_strategy.specs.Noted.{MakesChoices, MeansBySchedule}
use Rattle.pf_strategy.specs.declared.noted.ChoicePoint.{ChoicePoint}
use Rattle.pf_explore_laws.specs.Schedules.{HoldsByEach, HoldsWithin}

-- the property of a job holds by each list of choices among the others, or among all where there are no others
abbrev pub HoldsByEachLast : (last : Option ℕ) → Job → Type 0
HoldsByEachLast p j = (ns : List ℕ) (r : Report) → MeansBySchedule p j ns r → r.verdict ≡ Some true

-- the choices of another than the first
abbrev pub other_choices : List ChoicePoint → ℕ
other_choices [] = 0
other_choices (e ∷ es) = if e.choice == 0 then other_choices es else suc (other_choices es)

-- it holds by each list of choices of which at most k are of another than the first
abbrev pub HoldsWithinLast : (last : Option ℕ) → ℕ → Job → Type 0
HoldsWithinLast p k j = (ns : List ℕ) (es : List ChoicePoint) (r : Report) → MakesChoices p j ns es r
    → other_choices es ≤ k → r.verdict ≡ Some true

-- ---- laws

-- where no process is named, this says what is said of all schedules
abbrev pub NobodyLast : Type 0
NobodyLast =
    (j : Job) → (HoldsByEachLast None j → HoldsByEach j) × ((k : ℕ) → HoldsWithinLast None k j → HoldsWithin k j)

-- what a job means by a chooser that lets a process go last it means by some schedule by which that goes last
abbrev pub SomeScheduleLast : (S : Type 0) → Type 0
SomeScheduleLast S = (p : Option ℕ) (j : Job) (choose : Chooser S) (s : S) (r : Report)
    → MeansBy (keep_named p choose) s j r → (ns : List ℕ) × MeansBySchedule p j ns r

-- where no schedule of a job fails, it fails by no chooser that lets the process go last, from any state
abbrev pub NoChooserFailsLast : (S : Type 0) → Type 0
NoChooserFailsLast S = (p : Option ℕ) (j : Job) → HoldsByEachLast p j → (choose : Chooser S) (s : S) (r : Report)
    → MeansBy (keep_named p choose) s j r → r.verdict ≡ Some true
