-- The law of verdicts.
use Rattle.std.specs.Prelude.{◌≡◌, ℕ, List, Some, false, slice_get}
use Rattle.pf_model.specs.Meaning.{Job, Report}
use Rattle.pf_model.specs.Properties.{Property}
use Rattle.pf_strategy.specs.Strategies.{MeansBySeed}
use Rattle.pf_strategy.specs.declared.strategy.Strategy.{Strategy}
use Rattle.pf_verdicts.specs.Causes.{cause_of}
use Rattle.pf_verdicts.specs.declared.cause.FailureCause.TheVariants.{Further}

-- a run that fails by a further property is that of the job with this property by the same seed, and there it fails
abbrev pub FailureRepeats : Type 0
FailureRepeats =
    (w : Strategy) (j : Job) (s : ℕ) (r : Report) (ps : List Property) (i : ℕ) (p : Property) → MeansBySeed w j s r
    → cause_of ps r ≡ Further i → slice_get ps i ≡ Some p
    → MeansBySeed w (record j { property = p }) s (record r { verdict = Some false })
