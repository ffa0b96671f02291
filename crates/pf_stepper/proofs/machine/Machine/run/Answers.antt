use Rattle.std.proofs.Common.{ap, ◌∙◌, ◌≡◌, subst, sym}
use Rattle.pf_stepper.specs.MachineView.{MachineView}
use Rattle.pf_stepper.specs.Readiness.{IsReadyAhead}
use Rattle.pf_stepper.specs.Inner.{standing_in}
use Rattle.pf_stepper.specs.declared.machine.MachineStatus.{MachineStatus}
use Rattle.pf_stepper.specs.declared.machine.MachineStatus.TheVariants as stood
use Rattle.pf_stepper.proofs.Outer.{ran_so}
use Rattle.pf_stepper.proofs.Ready.{ready_to_settle}
use Rattle.pf_stepper.proofs.machine.Machine.run.Goals as goal

pub returns-clause-ran : goal.returns-clause-ran
returns-clause-ran g c =
    let i = c.self.inside in
    let before : MachineStatus → MachineView = λ x. record {
      own = i.own;
      checked = i.module.value;
      standing =
          standing_in i.module.value i.stack x;
    } in
    let stood_so : before (stood.Goes c.in-Goes.focus) ≡ c.args.self.now = ap before c.in-Goes.ensures.value
    ∙ c.self.view_is in
    let ran = rw c.deref.ensures at c.in_ok-used.ensures in
    let settled = rw c.deref-2.ensures at c.in_ok-settle.ensures.settled in
    rw (← stood_so) (ran_so i.module.value i.own c.args.left _ _ c.in_ok-used.used i.stack c.run.new.self
    c.settle.new.stack c.in-Goes.focus c.run.new.advance c.settle.new.standing c.settle.new.did ran settled)

pub settle-requires-clause-ready : goal.settle-requires-clause-ready
settle-requires-clause-ready g c =
    let i = c.self.inside in
    let ready = g.I.Inbox.IsReady c.args.inbox.now in
    let before : MachineStatus → MachineView = λ x. record {
      own = i.own;
      checked = i.module.value;
      standing =
          standing_in i.module.value i.stack x;
    } in
    let stood_so : before (stood.Goes c.in-Goes.focus) ≡ c.args.self.now = ap before c.in-Goes.ensures.value
    ∙ c.self.view_is in
    let ahead = subst (IsReadyAhead ready) (sym stood_so) c.requires.ready in
    let ran = rw c.deref.ensures at c.in_ok-used.ensures in
    rw c.deref-2.ensures (ready_to_settle ready i.module.value i.own c.args.left _ i.stack c.run.new.self
    c.in-Goes.focus c.run.new.advance ahead ran)
