use Rattle.pf_explore_laws.proofs.Replayed as schedules
use Rattle.pf_explore_laws.proofs.schedules.all_is_within_the_limit.Goals as goal

pub returns : goal.returns
returns c = schedules.all_is_within_the_limit
