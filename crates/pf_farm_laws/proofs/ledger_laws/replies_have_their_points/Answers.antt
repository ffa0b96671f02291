use Rattle.pf_farm_laws.proofs.Points as proved
use Rattle.pf_farm_laws.proofs.ledger_laws.replies_have_their_points.Goals as goal

pub returns-clause-points : goal.returns-clause-points
returns-clause-points g c = proved.replies_have_their_points

pub returns-clause-own : goal.returns-clause-own
returns-clause-own g c = proved.receipts_are_of_own_calls
