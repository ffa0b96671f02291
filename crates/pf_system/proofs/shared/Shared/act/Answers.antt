use Rattle.std.proofs.Common.{sym, subst, IfOk}
use Rattle.pf_stepper.specs.Acts.{act_of}
use Rattle.pf_system.specs.Acts.{ActsAs, answer}
use Rattle.pf_system.proofs.shared.Shared.act.Goals as goal

pub returns-in-Link : goal.returns-in-Link
returns-in-Link c =
    subst (λ x. IfOk c.link.result (λ v. ActsAs c.args.pid (act_of x) c.args.self.now (answer v c.link.new.shown)
    c.link.new.self)) (sym c.in-Link.is) c.link.ensures

pub returns-in-Unlink : goal.returns-in-Unlink
returns-in-Unlink c =
    subst (λ x. IfOk c.unlink.result (λ v. ActsAs c.args.pid (act_of x) c.args.self.now (answer v c.unlink.new.shown)
    c.unlink.new.self)) (sym c.in-Unlink.is) c.unlink.ensures

pub returns-in-Monitor : goal.returns-in-Monitor
returns-in-Monitor c =
    subst (λ x. IfOk c.monitor.result (λ v. ActsAs c.args.pid (act_of x) c.args.self.now (answer v c.monitor.new.shown)
    c.monitor.new.self)) (sym c.in-Monitor.is) c.monitor.ensures

pub returns-in-ExitOther : goal.returns-in-ExitOther
returns-in-ExitOther c =
    subst (λ x. IfOk c.exit_other.result (λ v. ActsAs c.args.pid (act_of x) c.args.self.now
    (answer v c.exit_other.new.shown) c.exit_other.new.self)) (sym c.in-ExitOther.is) c.exit_other.ensures

pub returns-in-Register : goal.returns-in-Register
returns-in-Register c =
    subst (λ x. IfOk c.register.result (λ v. ActsAs c.args.pid (act_of x) c.args.self.now
    (answer v c.register.new.shown) c.register.new.self)) (sym c.in-Register.is) c.register.ensures

pub returns-in-MakeRef : goal.returns-in-MakeRef
returns-in-MakeRef c =
    subst (λ x. IfOk c.make_reference.result (λ v. ActsAs c.args.pid (act_of x) c.args.self.now
    (answer v c.make_reference.new.shown) c.make_reference.new.self)) (sym c.in-MakeRef.is) c.make_reference.ensures

pub returns-in-SetFlag : goal.returns-in-SetFlag
returns-in-SetFlag c =
    subst (λ x. ActsAs c.args.pid (act_of x) c.args.self.now (answer c.set_flag.result c.set_flag.new.shown)
    c.set_flag.new.self) (sym c.in-SetFlag.is) c.set_flag.ensures

pub returns-in-Unregister : goal.returns-in-Unregister
returns-in-Unregister c =
    subst (λ x. ActsAs c.args.pid (act_of x) c.args.self.now (answer c.unregister.result c.unregister.new.shown)
    c.unregister.new.self) (sym c.in-Unregister.is) c.unregister.ensures

pub returns-in-Whereis : goal.returns-in-Whereis
returns-in-Whereis c =
    subst (λ x. ActsAs c.args.pid (act_of x) c.args.self.now (answer c.whereis.result c.whereis.new.shown)
    c.whereis.new.self) (sym c.in-Whereis.is) c.whereis.ensures
