use Rattle.std.proofs.Common.{ap, arith}
use Rattle.pf_terms.specs.Value.{count}
use Rattle.pf_terms.specs.Term.{elements_of}
use Rattle.pf_ops.proofs.Counted.{count_le}
use Rattle.pf_ops.proofs.builtins.count.Goals as goal

pub overflow_add-n : goal.overflow_add-n
overflow_add-n c = omega (arith, count_le (elements_of c.args.list.now), ap count c.in-Some.ensures)
