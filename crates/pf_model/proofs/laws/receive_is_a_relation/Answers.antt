use Rattle.pf_model.proofs.Receives as receives
use Rattle.pf_model.proofs.laws.receive_is_a_relation.Goals as goal

pub returns : goal.returns
returns c = receives.receive_is_a_relation
