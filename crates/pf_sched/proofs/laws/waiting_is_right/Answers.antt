use Rattle.pf_sched.proofs.Living.{waiting_is_right}
use Rattle.pf_sched.proofs.laws.waiting_is_right.Goals as goal

pub returns : goal.returns
returns g c = waiting_is_right _
