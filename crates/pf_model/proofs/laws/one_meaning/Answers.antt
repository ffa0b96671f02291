use Rattle.pf_model.proofs.Meanings as meanings
use Rattle.pf_model.proofs.laws.one_meaning.Goals as goal

pub returns : goal.returns
returns c = meanings.one_meaning
