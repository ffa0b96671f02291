use Rattle.pf_world.proofs.Legal.{legal}
use Rattle.pf_world.proofs.laws.legality.Goals as goal

pub returns : goal.returns
returns c = legal
