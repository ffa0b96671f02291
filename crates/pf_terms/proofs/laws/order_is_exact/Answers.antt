use Rattle.pf_terms.proofs.Exact.{same_by_order}
use Rattle.pf_terms.proofs.laws.order_is_exact.Goals as goal

pub returns : goal.returns
returns c = λ name n v w apart below_v below_w e. same_by_order name n apart v w below_v below_w e
