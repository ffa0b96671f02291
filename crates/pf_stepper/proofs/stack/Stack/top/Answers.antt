use Rattle.std.proofs.Common.{◌≡◌, Some, length, ◌-◌, subst}
use Rattle.std.specs.Prelude.{slice_get}
use Rattle.pf_stepper.proofs.Slots.{top_at}
use Rattle.pf_stepper.proofs.stack.Stack.top.Goals as goal

pub returns-in-Some : goal.returns-in-Some
returns-in-Some c = top_at 0 c.args.self.now.frames.items c.in-Some.frame.now
    (subst (λ l. Some c.in-Some.frame.now ≡ slice_get l (length l - 1)) c.deref.ensures.value c.in-Some.ensures.value)
