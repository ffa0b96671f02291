use Rattle.pf_explore_laws.proofs.Last as last
use Rattle.pf_explore_laws.proofs.schedules.nobody_last.Goals as goal

pub returns : goal.returns
returns c = last.nobody_last
