use Rattle.std.proofs.Common.{◌≡◌, ap, sym, ◌∙◌}
use Rattle.pf_stepper.proofs.Points.{point_from, is_as, is_nowhere}
use Rattle.pf_stepper.proofs.machine.Machine.point.Goals.{in-Goes, in-Asking, in-Asking-2, in-Asking-3}
use Rattle.pf_stepper.proofs.machine.Machine.point.Goals as goal

pub returns-clause-point : goal.returns-clause-point
returns-clause-point c =
    let i = c.self.inside in
    let so : c.match-self.point ≡ point_from i.stack i.standing = elim c.match-self.branch [
      | in-Goes w ↦ w.point-is ∙ w.point-point.ensures ∙ ap (point_from i.stack) (sym w.in-Goes.is)
      | in-Asking w ↦ w.point-is ∙ is_nowhere i.stack i.standing w.in-Asking.is
      | in-Asking-2 w ↦ w.point-is ∙ is_nowhere i.stack i.standing w.in-Asking.is
      | in-Asking-3 w ↦ w.point-is ∙ is_nowhere i.stack i.standing w.in-Asking.is
    ] in
    rw (← c.self.view_is) (is_as i.module.value i.stack i.standing c.match-self.point so)
