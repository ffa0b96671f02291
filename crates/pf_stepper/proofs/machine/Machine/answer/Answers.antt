use Rattle.std.proofs.Common.{sym, subst}
use Rattle.pf_stepper.specs.MachineView.{MachineView}
use Rattle.pf_stepper.specs.Turns.{CanAnswer}
use Rattle.pf_stepper.proofs.Outer.{asking_sound, answers_value, answers_raise}
use Rattle.pf_stepper.proofs.machine.Machine.answer.Goals.{in-Ok, in-Err}
use Rattle.pf_stepper.proofs.machine.Machine.answer.Goals as goal

pub invariant_of-self : goal.invariant_of-self
invariant_of-self c =
    let i = c.self.inside in
    let can = subst (λ (x : MachineView). CanAnswer x.standing) (sym c.self.view_is) c.requires in
    let sound = asking_sound i.module.value i.stack i.standing can c.self.invariant in
    elim c.match-answer.branch [ in-Ok w ↦ rw w.t-6-is sound | in-Err w ↦ rw w.t-6-is tt ]

pub returns : goal.returns
returns c =
    let i = c.self.inside in
    let can = subst (λ (x : MachineView). CanAnswer x.standing) (sym c.self.view_is) c.requires in
    let value = answers_value i.module.value i.stack i.own i.standing can in
    let raise = answers_raise i.module.value i.stack i.own i.standing can in
    rw (← c.self.view_is) (elim c.match-answer.branch [
      | in-Ok w ↦ rw (w.in-Ok.is, w.t-6-is) (value w.in-Ok.value)
      | in-Err w ↦ rw (w.in-Err.is, w.t-6-is) (raise w.in-Err.reason)
    ])
