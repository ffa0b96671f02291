use Rattle.std.proofs.Common.{◌-◌, refl, subst}
use Rattle.pf_model.specs.Reports.{label_of}
use Rattle.pf_sched.specs.Reported.{event}
use Rattle.pf_sched.specs.Traces.{MayHavePassed}
use Rattle.pf_sched.proofs.execution.Execution.go.Goals as goal

pub returns : goal.returns
returns g c d is_there =
    let old = c.args.self.now in
    let n = c.in-Some.chosen in (
      event n.index n.among n.actor (label_of c.pass_next.new.shown),
      subst (λ o. MayHavePassed (c.args.limit - old.system.steps) d old o (label_of c.pass_next.new.shown)
          c.pass_next.new.self) c.in-Some.is (c.in_ok-chosen.ensures d is_there),
      c.in_ok-notify.ensures,
    )

pub returns-in_default : goal.returns-in_default
returns-in_default g c d is_there =
    let old = c.args.self.now in
    let none =
    subst (λ o. MayHavePassed (c.args.limit - old.system.steps) d old o (label_of c.pass_next.new.shown)
    c.pass_next.new.self) c.in_default.is (c.in_ok-chosen.ensures d is_there) in
    (none.0, none.1, refl)
