use Rattle.pf_desks.proofs.Isolated.{isolated}
use Rattle.pf_desks.proofs.laws.isolation.Goals as goal

pub returns : goal.returns
returns c = isolated
