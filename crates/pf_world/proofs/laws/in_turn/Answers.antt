use Rattle.pf_world.proofs.InTurn.{in_turn}
use Rattle.pf_world.proofs.laws.in_turn.Goals as goal

pub returns : goal.returns
returns c = in_turn
