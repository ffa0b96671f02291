-- Strategies: how a seed chooses.
use Rattle.std.specs.Prelude.{ℕ, zero, Option}
use Rattle.pf_model.specs.Choosers.{choose_by_picks}
use Rattle.pf_model.specs.Meaning.{Job, MeansBy, Report, picks_of}
use Rattle.pf_request.specs.Job.{reseeded}
use Rattle.pf_strategy.specs.Last.{keep_named}
use Rattle.pf_strategy.specs.Priorities.{first}
use Rattle.pf_strategy.specs.Runs.{choose_by_priorities}
use Rattle.pf_strategy.specs.declared.strategy.Sampling.{Sampling}
use Rattle.pf_strategy.specs.declared.strategy.Sampling.TheVariants.{Uniform, Priorities}
use Rattle.pf_strategy.specs.declared.strategy.Strategy.{Strategy}

-- a report is what a job means by a seed in place of its own choices: among all alike, or by the weights that they
-- have; or by priorities. A process that is named goes last
abbrev pub MeansBySampling : Sampling → (last : Option ℕ) → Job → (seed : ℕ) → Report → Type 0
MeansBySampling Uniform p j s r = MeansBy (keep_named p (choose_by_picks (picks_of (reseeded j.choices s)))) zero j r
MeansBySampling Priorities p j s r = MeansBy (keep_named p choose_by_priorities) (first s) j r

-- the same by a strategy
abbrev pub MeansBySeed : Strategy → Job → (seed : ℕ) → Report → Type 0
MeansBySeed w j s r = MeansBySampling w.sampling w.last j s r
