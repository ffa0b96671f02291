use Rattle.pf_world.proofs.Legal as proved
use Rattle.pf_world.proofs.laws.limits.Goals as goal

pub returns : goal.returns
returns c = proved.limits
