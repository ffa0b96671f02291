-- How long the runs of a job are.
use Rattle.std.specs.Prelude.{◌≤◌, ℕ, List, Option}
use Rattle.pf_model.specs.Meaning.{Job, Report}
use Rattle.pf_strategy.specs.Noted.{MeansBySchedule}

-- no run by a schedule has more steps, where a process that is named goes last
abbrev pub StepsAreWithin : (last : Option ℕ) → ℕ → Job → Type 0
StepsAreWithin p n j = (ns : List ℕ) (r : Report) → MeansBySchedule p j ns r → r.steps ≤ n
