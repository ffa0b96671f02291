-- Reports of runs that fail.
use Rattle.std.specs.Prelude.{◌≡◌, ℕ, List, false, map, Option, Some}
use Rattle.pf_model.specs.Meaning.{Job, Report, Means}
use Rattle.pf_model.specs.Shrinking.{by_schedule}
use Rattle.pf_strategy.specs.Noted.{MakesChoices}
use Rattle.pf_strategy.specs.declared.noted.ChoicePoint.{ChoicePoint}

-- a report is what a job means by the choices of its events as a schedule, and the property fails
abbrev pub IsFailing : Job → Report → Type 0
IsFailing j r = Means (by_schedule j (map (λ e. e.choice) r.events)) r × (r.verdict ≡ Some false)

-- and it is a run in which a process that is named goes last
abbrev pub IsFailingLast : (last : Option ℕ) → Job → Report → Type 0
IsFailingLast p j r =
    IsFailing j r × ((ns : List ℕ) × (es : List ChoicePoint) × MakesChoices p j ns es r)
