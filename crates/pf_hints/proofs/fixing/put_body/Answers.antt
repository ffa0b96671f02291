use Rattle.pf_hints.proofs.Fillers.{fixed_again}
use Rattle.pf_hints.proofs.fixing.put_body.Goals as goal

pub returns : goal.returns
returns c =
    fixed_again _ _ _ c.put.ensures (fixed_again _ _ _ c.put-2.ensures c.put-3.ensures)
