use Rattle.pf_stepper.proofs.Focused.{raised, exited}
use Rattle.pf_stepper.proofs.stack.Stack.micro_step.Goals as goal

pub returns-in-Raised : goal.returns-in-Raised
returns-in-Raised c = rw c.in-Raised.is (raised _ c.args.own _ _ _ _ _)

pub returns-in-Exited : goal.returns-in-Exited
returns-in-Exited c = rw c.in-Exited.is (exited _ c.args.own _ _ _ _ _)
