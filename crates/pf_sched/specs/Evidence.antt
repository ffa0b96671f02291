-- What is kept of the events of a run to judge it.
use Rattle.std.specs.Prelude.{◌≡◌, ℕ, List, count_by, min}
use Rattle.pf_model.specs.Labels.{Label}
use Rattle.pf_model.specs.Meaning as meaning
use Rattle.pf_model.specs.Meaning.{Job}
use Rattle.pf_model.specs.Properties.{Property}
use Rattle.pf_property.specs.Views.{labels_in}
use Rattle.pf_sched.specs.Reported.{Decides}
use Rattle.pf_sched.specs.Waiting.{is_begin, is_end}
use Rattle.pf_sched.specs.declared.evidence.Evidence.{Evidence}
use Rattle.pf_sched.specs.declared.evidence.ProcessCounts.{ProcessCounts}

-- the largest count, which no run reaches
abbrev pub most : ℕ
most = 4294967295

-- so many processes began, and so many ended
abbrev pub CountsProcesses : ProcessCounts → List Label → Type 0
CountsProcesses n ls = (n.begun ≡ min (count_by is_begin ls) most) × (n.ended ≡ min (count_by is_end ls) most)

-- of a property, which is that of the job, it is known whether an event rules it out; and how many processes began and
-- ended
abbrev pub Shows : (of : Property) → Evidence → Job → List meaning.Event → Type 0
Shows p v j reported = Decides p v.ruled_out j reported × CountsProcesses v.processes (labels_in reported)
