use Rattle.pf_strategy.proofs.Meant as meant
use Rattle.pf_strategy.proofs.laws.replay_of_priorities.Goals as goal

pub returns : goal.returns
returns c = meant.replay_of_priorities
