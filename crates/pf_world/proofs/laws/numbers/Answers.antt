use Rattle.pf_world.proofs.Numbers as proved
use Rattle.pf_world.proofs.laws.numbers.Goals as goal

pub returns : goal.returns
returns c = proved.numbers
