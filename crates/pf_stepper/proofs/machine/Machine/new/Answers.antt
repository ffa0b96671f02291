use Rattle.pf_stepper.proofs.Outer.{begun}
use Rattle.pf_stepper.proofs.machine.Machine.new.Goals as goal

pub returns : goal.returns
returns c =
    let begins = c.in_ok-stack.ensures in
    rw (begins.operands, begins.base) (begun c.args.module.value c.args.own _ c.args.args.items _ c.args.function
    c.len-count.result begins.frames)
