use Rattle.std.proofs.Common.{arith}
use Rattle.pf_ops.proofs.Counted.{past_two}
use Rattle.pf_ops.proofs.builtins.compute.Goals as goal

pub returns-in-len3-up : goal.returns-in-len3-up
returns-in-len3-up c = past_two c.args.own c.args.builtin c.args.arguments.now (omega arith)
