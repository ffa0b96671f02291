use Rattle.pf_world.proofs.Settled.{settled}
use Rattle.pf_world.proofs.laws.settled.Goals as goal

pub returns : goal.returns
returns c = settled
