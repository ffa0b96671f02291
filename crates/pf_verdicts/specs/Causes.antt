-- Why a run fails.
use Rattle.std.specs.Prelude.{Bool, ℕ, if◌then◌else◌, List, Option, Some, None, position}
use Rattle.pf_model.specs.Meaning.{Report}
use Rattle.pf_model.specs.Properties.{Property, verdict}
use Rattle.pf_model.specs.Shrinking.{is_failure}
use Rattle.pf_property.specs.Views.{labels_in}
use Rattle.pf_verdicts.specs.declared.cause.FailureCause.{FailureCause}
use Rattle.pf_verdicts.specs.declared.cause.FailureCause.TheVariants as cause

-- of the run of a report this property fails
abbrev pub fails_by : Report → Property → Bool
fails_by r p = is_failure (verdict p (labels_in r.events) r.outcome)

-- of these properties the first that fails of the run of a report, counted from 0
abbrev pub first_failed : List Property → Report → Option ℕ
first_failed ps r = position (fails_by r) ps

-- which of further properties fails, if one does; else the run leaks
abbrev pub further_cause : Option ℕ → FailureCause
further_cause None = cause.Leak
further_cause (Some i) = cause.Further i

-- why the run of a report fails: its job's property does; or else the first that does of these further ones; or else
-- processes still wait
abbrev pub cause_of : List Property → Report → FailureCause
cause_of ps r = if is_failure r.verdict then cause.Property else further_cause (first_failed ps r)
