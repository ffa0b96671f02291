-- The laws of strategies.
use Rattle.std.specs.Prelude.{◌≡◌, ℕ, map}
use Rattle.pf_choice.specs.Chosen.{IsProfile}
use Rattle.pf_model.specs.Meaning.{Job, Report, Means, profile_of}
use Rattle.pf_model.specs.Shrinking.{by_schedule}
use Rattle.pf_strategy.specs.Runs.{MeansByPriorities}
use Rattle.pf_strategy.specs.Strategies.{MeansBySeed}
use Rattle.pf_strategy.specs.declared.strategy.Strategy.{Strategy}

-- the choices of a report by priorities, given back as a schedule, mean that report
abbrev pub ReplayOfPriorities : Type 0
ReplayOfPriorities = (j : Job) (s : ℕ) (r : Report) → MeansByPriorities j s r
    → Means (by_schedule j (map (λ e. e.choice) r.events)) r

-- so do those of a report by a seed, whichever strategy chose
abbrev pub ReplayOfSeeds : Type 0
ReplayOfSeeds = (w : Strategy) (j : Job) (s : ℕ) (r : Report) → MeansBySeed w j s r
    → Means (by_schedule j (map (λ e. e.choice) r.events)) r

-- a job means one report only by a seed and a strategy
abbrev pub OneReport : Type 0
OneReport = (w : Strategy) (j : Job) (s : ℕ) (r t : Report) → MeansBySeed w j s r → MeansBySeed w j s t → r ≡ t

-- a job means some report by the priorities of each seed: each transition takes a step at least, so the limit bounds
-- how many there are
abbrev pub SomeReportByPriorities : Type 0
SomeReportByPriorities = (j : Job) (s : ℕ) → (r : Report) × MeansByPriorities j s r

-- and by each seed and any strategy, if the job's weights, where it has any, are from 1 to 9
abbrev pub SomeReport : Type 0
SomeReport = (w : Strategy) (j : Job) (s : ℕ) → IsProfile (profile_of j.choices) → (r : Report) × MeansBySeed w j s r
