use Rattle.pf_model.proofs.Orders as orders
use Rattle.pf_model.proofs.laws.pair_order.Goals as goal

pub returns : goal.returns
returns g c = orders.pair_order _
