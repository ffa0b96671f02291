-- How the run of a job by a seed is judged.
use Rattle.std.specs.Prelude.{◌≡◌, ℕ, List}
use Rattle.std.specs.List.{list_any}
use Rattle.pf_model.specs.Meaning.{Job, Report}
use Rattle.pf_model.specs.Properties.{Property}
use Rattle.pf_sched.specs.Judging.{IsJudged}
use Rattle.pf_strategy.specs.Strategies.{MeansBySeed}
use Rattle.pf_strategy.specs.declared.strategy.Strategy.{Strategy}
use Rattle.pf_verdicts.specs.Causes.{fails_by}
use Rattle.pf_verdicts.specs.declared.judged.JudgedSeed.{JudgedSeed}

-- a report's outcome and verdict are these, and so many processes still wait; and one of further properties fails of
-- its run, or none
pub record IsJudgedBy (ps : List Property) (r : Report) (v : JudgedSeed) : Type 0 where
  pub judged : IsJudged r v.judged
  pub further : v.fails_further ≡ list_any (fails_by r) ps

-- of the report that a job means by a seed and a strategy all this is so
abbrev pub JudgesBySeed : Strategy → List Property → Job → (seed : ℕ) → JudgedSeed → Type 0
JudgesBySeed w ps j s v = (r : Report) × MeansBySeed w j s r × IsJudgedBy ps r v
