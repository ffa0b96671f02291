use Rattle.std.proofs.Common.{◌≡◌, Some, length, ◌-◌, subst, ◌∙◌}
use Rattle.std.specs.Prelude.{slice_get}
use Rattle.pf_stepper.proofs.Points.{last_waits}
use Rattle.pf_stepper.proofs.stack.Stack.waiting_point.Goals as goal

pub returns-in-Some : goal.returns-in-Some
returns-in-Some c =
    c.point.ensures
    ∙ last_waits c.args.self.now.frames.items c.in-Some.frame.now
    (subst (λ l. Some c.in-Some.frame.now ≡ slice_get l (length l - 1)) c.deref.ensures.value c.in-Some.ensures.value)
