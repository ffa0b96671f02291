use Rattle.std.proofs.Common.{refl, sym, subst, OnOk}
use Rattle.std.proofs.lemmas.Result.{on_ok_weaker}
use Rattle.pf_model.specs.declared.report.Label.TheVariants as shown
use Rattle.pf_system.specs.Settled.{SettlesAs}
use Rattle.pf_system.proofs.Lasts.{settles_cut, settles_take, settles_act, settles_wait}
use Rattle.pf_system.proofs.processes.Processes.settle.Goals as goal

pub returns-in-Pure : goal.returns-in-Pure
returns-in-Pure c = subst (λ x. SettlesAs c.args.pid x c.args.self.now shown.Cut c.args.self.now) (sym c.in-Pure.is)
    (settles_cut c.args.pid c.args.self.now shown.Cut refl)

pub returns-in-Action : goal.returns-in-Action
returns-in-Action c =
    let w = c.args.self.now in
    let w1 = c.act.new.self in
    let l = c.act.new.shown in
    subst (λ x. OnOk c.act.result (SettlesAs c.args.pid x w l w1)) (sym c.in-Action.is)
    (on_ok_weaker c.act.result (λ h. settles_act c.args.pid c.in-Action.act w w1 l h) c.act.ensures)

pub returns-in-Take : goal.returns-in-Take
returns-in-Take c =
    subst (λ x. SettlesAs c.args.pid x c.args.self.now (shown.Takes c.in-Take.message) c.args.self.now)
    (sym c.in-Take.is)
    (settles_take c.args.pid c.in-Take.message c.args.self.now (shown.Takes c.in-Take.message) refl)

pub returns-in-Wait : goal.returns-in-Wait
returns-in-Wait c =
    let w = c.args.self.now in
    subst (λ x. SettlesAs c.args.pid x w shown.Waits c.wait.new.self) (sym c.in-Wait.is)
    (settles_wait c.args.pid w c.wait.new.self shown.Waits refl c.wait.ensures)

pub returns-in-End : goal.returns-in-End
returns-in-End c =
    let w = c.args.self.now in
    subst (λ x. OnOk c.finish.result (SettlesAs c.args.pid x w c.finish.new.shown c.finish.new.self)) (sym c.in-End.is)
    c.finish.ensures
