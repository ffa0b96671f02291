use Rattle.pf_explore_laws.proofs.Replayed as schedules
use Rattle.pf_explore_laws.proofs.schedules.no_chooser_fails_within.Goals as goal

pub returns : goal.returns
returns g c = schedules.no_chooser_fails_within _
