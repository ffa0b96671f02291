use Rattle.std.proofs.Common.{arith}
use Rattle.pf_lower.proofs.Knows_more.{knows_more}
use Rattle.pf_lower.proofs.function_table.FunctionTable.new.Goals as goal

pub loop-number-preserved : goal.loop-number-preserved
loop-number-preserved c = λ f a.
    knows_more c.args.syntax.now.node_table c.functions-function-items.result.now c.args.syntax.now.functions
    c.loop-number.number c.function-item.result f a _ _
    c.functions-function-items.ensures (omega arith) c.function-item.is (c.loop-number.invariant f a)
    (c.in_ok-enter_function.ensures c.args.syntax.now.node_table f a)
