use Rattle.pf_model.proofs.Meanings as meanings
use Rattle.pf_model.proofs.laws.replay.Goals as goal

pub returns : goal.returns
returns c = meanings.replay
