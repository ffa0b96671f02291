use Rattle.pf_terms.proofs.Total.{compare_total}
use Rattle.pf_terms.proofs.laws.order_is_total.Goals as goal

pub returns : goal.returns
returns c = compare_total
