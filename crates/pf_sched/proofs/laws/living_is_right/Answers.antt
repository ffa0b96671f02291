use Rattle.pf_sched.proofs.Living.{living_is_right}
use Rattle.pf_sched.proofs.laws.living_is_right.Goals as goal

pub returns : goal.returns
returns g c = living_is_right _
