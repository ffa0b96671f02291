use Rattle.pf_farm_laws.proofs.Orders as proved
use Rattle.pf_farm_laws.proofs.laws.reports_are_of_their_orders.Goals as goal

pub returns : goal.returns
returns c = proved.reports_are_of_their_orders
