use Rattle.pf_model.proofs.Meanings as meanings
use Rattle.pf_model.proofs.laws.replay_of_choosers.Goals as goal

pub returns : goal.returns
returns g c = meanings.replay_of_choosers _
