use Rattle.pf_sched.proofs.One as one
use Rattle.pf_sched.proofs.laws.one_count.Goals as goal

pub returns-clause-one : goal.returns-clause-one
returns-clause-one c = one.one_count

pub returns-clause-some : goal.returns-clause-some
returns-clause-some c = one.some_count
