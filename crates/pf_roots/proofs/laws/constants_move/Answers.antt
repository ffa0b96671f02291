use Rattle.pf_roots.proofs.Kept.{constants_moved}
use Rattle.pf_roots.proofs.laws.constants_move.Goals as goal

pub returns : goal.returns
returns c = constants_moved
