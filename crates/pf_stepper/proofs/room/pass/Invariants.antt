use Rattle.std.proofs.Common.{◌≡◌, ◌++◌}
use Rattle.pf_stepper.proofs.room.pass.Given as goal

abbrev pub invariant-loop-value : goal.invariant-loop-value
invariant-loop-value l = l.operands.items ++ l.value-iterator ≡ l.fn.operands.items ++ l.fn.args.items
