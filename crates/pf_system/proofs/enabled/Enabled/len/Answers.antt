use Rattle.std.proofs.Common.{arith, ap, length}
use Rattle.pf_system.proofs.enabled.Enabled.len.Goals as goal

pub overflow_add-result : goal.overflow_add-result
overflow_add-result c = let h = c.as_slice.type_inv.1 in let k = c.len.ensures.few in omega arith

pub returns-clause-few : goal.returns-clause-few
returns-clause-few c few = let k = c.len.ensures.few in let e = c.as_slice.ensures in omega (arith, ap length e)
