use Rattle.pf_hints.proofs.Fillers.{fixed_again}
use Rattle.pf_hints.proofs.fixing.stub.Goals as goal

pub returns : goal.returns
returns c = fixed_again _ _ _ c.blank.ensures c.put_head.ensures
