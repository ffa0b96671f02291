-- What chooses in the run of a job: choices, or the priorities of a seed; by either a process may go last.
use Rattle.std.specs.Prelude.{ℕ, zero, List, [], Option, Some, None}
use Rattle.rand_pcg.specs.Lcg.{Lcg}
use Rattle.pf_model.specs.Choosers.{Chooser, choose_by_picks}
use Rattle.pf_model.specs.Meaning.{Choices, Job, MeansBy, Report, picks_of}
use Rattle.pf_request.specs.Job.{reseeded}
use Rattle.pf_strategy.specs.Last.{keep_last}
use Rattle.pf_strategy.specs.Noted.{note_choices}
use Rattle.pf_strategy.specs.Priorities.{PriorityState, first}
use Rattle.pf_strategy.specs.Runs.{choose_by_priorities}
use Rattle.pf_strategy.specs.declared.noted.ChoicePoint.{ChoicePoint}
use Rattle.pf_strategy.specs.declared.strategy.Sampling.{Sampling}
use Rattle.pf_strategy.specs.declared.strategy.Sampling.TheVariants.{Uniform, Priorities}
use Rattle.pf_strategy.specs.declared.strategy.SeedChoice.{SeedChoice}

pub data Choosing : Type 0 where
  choices : Choices → Choosing
  priorities : (seed : ℕ) → Choosing
  -- choices, each of which is noted
  noted : Choices → Choosing
  -- the same, but for a process that goes last
  last : (pid : ℕ) → Choosing → Choosing

-- the states of its chooser
abbrev pub StateOf : Choosing → Type 0
StateOf (choices cs) = ℕ
StateOf (priorities seed) = PriorityState Lcg
StateOf (noted cs) = ℕ × List ChoicePoint
StateOf (last p w) = StateOf w

abbrev pub chooser_of : (w : Choosing) → Chooser (StateOf w)
chooser_of (choices cs) = choose_by_picks (picks_of cs)
chooser_of (priorities seed) = choose_by_priorities
chooser_of (noted cs) = note_choices (choose_by_picks (picks_of cs))
chooser_of (last p w) = keep_last p (chooser_of w)

-- and the one before the first choice
abbrev pub first_of : (w : Choosing) → StateOf w
first_of (choices cs) = zero
first_of (priorities seed) = first seed
first_of (noted cs) = (zero, [])
first_of (last p w) = first_of w

-- a report is what a job means where this chooses, in place of its own choices
abbrev pub MeansFor : Choosing → Job → Report → Type 0
MeansFor w j r = MeansBy (chooser_of w) (first_of w) j r

-- what chooses by a seed: its words, by the weights of the job's own choices, or its priorities
abbrev pub sampled : Sampling → Job → (seed : ℕ) → Choosing
sampled Uniform j s = choices (reseeded j.choices s)
sampled Priorities j s = priorities s

abbrev pub last_named : Option ℕ → Choosing → Choosing
last_named None w = w
last_named (Some p) w = last p w

abbrev pub choosing_by : SeedChoice → Job → Choosing
choosing_by g j = last_named g.strategy.last (sampled g.strategy.sampling j g.seed)

-- what chooses where a run is asked for: a seed, or else the job's own choices
abbrev pub choosing_of : Option SeedChoice → Job → Choosing
choosing_of None j = choices j.choices
choosing_of (Some g) j = choosing_by g j
