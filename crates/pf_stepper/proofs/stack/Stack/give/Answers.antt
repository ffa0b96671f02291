use Rattle.std.proofs.Common.{arith}
use Rattle.pf_stepper.proofs.Slots.{none_left}
use Rattle.pf_stepper.proofs.Focused.{returned}
use Rattle.pf_stepper.proofs.stack.Stack.give.Goals as goal

pub returns-in-None : goal.returns-in-None
returns-in-None c =
    returned _ c.args.own _ _ _ _ _ c.args.value c.requires
    (none_left c.args.self.now.frames.items (omega (arith, c.in-None.ensures.cases.0, c.args.self.now.frames.ok.0)))
    (none_left c.pop.new.self.items (omega (arith, c.in-None.ensures.cases.1, c.pop.new.self.ok.0)))
