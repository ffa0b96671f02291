use Rattle.pf_farm_laws.proofs.Drops as drops
use Rattle.pf_farm_laws.proofs.ledger_laws.drops_are_noted.Goals as goal

pub returns : goal.returns
returns c = drops.drops_are_noted
