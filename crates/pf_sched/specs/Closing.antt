-- The report of a run that is over.
use Rattle.std.specs.Prelude.{◌≡◌, List}
use Rattle.pf_model.specs.Configuration.{Configuration}
use Rattle.pf_model.specs.Meaning.{Event, Report, outcome_of}
use Rattle.pf_model.specs.Properties.{verdict}
use Rattle.pf_property.specs.Views.{labels_in}
use Rattle.pf_request.specs.Job.{Job}
use Rattle.pf_system.specs.Steps.{Represents}
use Rattle.pf_system.specs.View.{SystemView}

-- a report has these events, and says of the rest how a job's run with them ended that ends with this system
pub record ClosesRun (j : Job) (es : List Event) (s : SystemView) (r : Report) : Type 0 where
  pub events : r.events ≡ es
  pub outcome : (c : Configuration) → Represents s c → r.outcome ≡ outcome_of c
  pub steps : r.steps ≡ s.steps
  pub verdict : r.verdict ≡ verdict j.asked.property (labels_in es) r.outcome
