use Rattle.std.proofs.Common.{refl}
use Rattle.pf_stepper.proofs.Focused.{stays_here, not_in_scope}
use Rattle.pf_stepper.proofs.stack.Stack.evaluate.Goals as goal

pub returns-in-Some : goal.returns-in-Some
returns-in-Some c = stays_here _ c.args.own _ _ _ _ c.args.part c.in-Some.value c.requires
    (rw c.in-Some.is at c.in_ok-value.ensures)

pub returns-in_default : goal.returns-in_default
returns-in_default c = not_in_scope _ c.args.own _ _ _ _ c.args.part _ refl (rw c.in-None.is at c.in_ok-value.ensures)
    c.in_default.not-Node
