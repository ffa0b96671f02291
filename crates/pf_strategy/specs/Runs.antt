-- Runs by priorities: of those who may go the one with the highest priority goes.
use Rattle.std.specs.Prelude.{ℕ}
use Rattle.rand_pcg.specs.Lcg.{Lcg}
use Rattle.rand_pcg.specs.Pcg.{pcg32}
use Rattle.pf_model.specs.Choosers.{Chooser}
use Rattle.pf_model.specs.Meaning.{Job, MeansBy, Report}
use Rattle.pf_strategy.specs.Keys.{keys_among}
use Rattle.pf_strategy.specs.Priorities.{PriorityState, choice, first}

-- the chooser of priorities, whose state is what is known of them between two choices
abbrev pub choose_by_priorities : Chooser (PriorityState Lcg)
choose_by_priorities s pids channels = choice pcg32 s (keys_among pids channels)

-- a report is what a job means by the priorities of a seed, in place of its own choices
abbrev pub MeansByPriorities : Job → (seed : ℕ) → Report → Type 0
MeansByPriorities j seed r = MeansBy choose_by_priorities (first seed) j r
