use Rattle.pf_model.proofs.Meanings as meanings
use Rattle.pf_model.proofs.laws.evaluation_is_the_meaning.Goals as goal

pub returns : goal.returns
returns c = meanings.evaluation_is_the_meaning
