use Rattle.pf_stepper.proofs.Outer.{none_of_many}
use Rattle.pf_stepper.proofs.calls.act_of_call.Goals as goal

pub returns-in_default : goal.returns-in_default
returns-in_default c own = none_of_many own c.args.builtin c.args.arguments.now c.in_default.len_at_least
