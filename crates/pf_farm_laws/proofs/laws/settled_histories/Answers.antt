use Rattle.pf_farm_laws.proofs.Settled as proved
use Rattle.pf_farm_laws.proofs.laws.settled_histories.Goals as goal

pub returns : goal.returns
returns c = proved.settled_histories
