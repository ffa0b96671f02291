use Rattle.pf_world.proofs.Isolated.{isolated}
use Rattle.pf_world.proofs.laws.isolation.Goals as goal

pub returns : goal.returns
returns c = isolated
