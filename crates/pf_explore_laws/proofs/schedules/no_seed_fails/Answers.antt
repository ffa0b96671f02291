use Rattle.pf_explore_laws.proofs.Replayed as schedules
use Rattle.pf_explore_laws.proofs.schedules.no_seed_fails.Goals as goal

pub returns : goal.returns
returns c = schedules.no_seed_fails
