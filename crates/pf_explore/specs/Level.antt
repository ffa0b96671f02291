-- What the runs by schedules say that deviate at most so often.
use Rattle.std.specs.Prelude.{◌≡◌, ◌≤◌, ℕ, Bool, true, List, Some}
use Rattle.pf_model.specs.Meaning as model
use Rattle.pf_model.specs.Reports.{view_of_report}
use Rattle.pf_strategy.specs.Noted.{MakesChoices}
use Rattle.pf_strategy.specs.declared.noted.ChoicePoint.{ChoicePoint}
use Rattle.pf_explore_laws.specs.Last.{HoldsByEachLast, HoldsWithinLast}
use Rattle.pf_explore.specs.Asked.{LastJob}
use Rattle.pf_explore.specs.Failing.{IsFailingLast}
use Rattle.pf_explore.specs.Branching.{IsNext}
use Rattle.pf_explore.specs.Steps.{StepsAreWithin}
use Rattle.pf_explore.specs.declared.level.RunEnd.{RunEnd}
use Rattle.pf_explore.specs.declared.level.RunEnd.TheVariants as runs
use Rattle.pf_explore.specs.declared.level.LevelEnd.{LevelEnd}
use Rattle.pf_explore.specs.declared.level.LevelEnd.TheVariants as ends

-- the run by a schedule fails, or it holds with so many steps, and this comes after it among those that deviate at most
-- so often; a process that is named goes last
abbrev pub IsRunEnd : LastJob → (schedule : List ℕ) → (most : ℕ) → RunEnd → Type 0
IsRunEnd a ns most (runs.Fails report) = IsFailingLast a.last a.job (view_of_report report)
IsRunEnd a ns most (runs.Holds held) =
    (r : model.Report) × (es : List ChoicePoint) × MakesChoices a.last a.job ns es r
    × ((r.verdict ≡ Some true) × (r.steps ≡ held.steps)) × IsNext most es held.next

-- the runs that deviate at most so often end so: at one that fails, or where none does; or where there were enough, or
-- they were stopped, which says nothing of them
abbrev pub IsEndOfLevel : LastJob → (most : ℕ) → LevelEnd → Type 0
IsEndOfLevel a most (ends.Fails report) = IsFailingLast a.last a.job (view_of_report report)
IsEndOfLevel a most (ends.Holds all steps) = HoldsWithinLast a.last most a.job
    × (all ≡ true → HoldsByEachLast a.last a.job × StepsAreWithin a.last steps a.job)
IsEndOfLevel a most ends.Cut = Unit {0}
IsEndOfLevel a most ends.Stopped = Unit {0}

-- no more runs were made than may be, and exactly so many where there were enough; fewer only if they may be stopped
abbrev pub StopsAt : (may_stop : Bool) → (budget runs : ℕ) → LevelEnd → Type 0
StopsAt may_stop budget runs (ends.Fails report) = runs ≤ budget
StopsAt may_stop budget runs (ends.Holds all steps) = runs ≤ budget
StopsAt may_stop budget runs ends.Cut = runs ≡ budget
StopsAt may_stop budget runs ends.Stopped = (runs ≤ budget) × (may_stop ≡ true)
