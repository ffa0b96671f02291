use Rattle.pf_world.proofs.OfTrials.{of_trials}
use Rattle.pf_world.proofs.laws.jobs.Goals as goal

pub returns : goal.returns
returns c = of_trials
