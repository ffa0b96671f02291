use Rattle.pf_model.proofs.Shrinks as shrinks
use Rattle.pf_model.proofs.laws.shrinking_is_right.Goals as goal

pub returns : goal.returns
returns c = shrinks.shrinking_is_right
