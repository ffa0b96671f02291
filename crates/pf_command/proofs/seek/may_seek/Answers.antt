use Rattle.std.proofs.Common.{sym, subst}
use Rattle.std.specs.Prelude.{MatchResult}
use Rattle.pf_sched.specs.Asked.{IsRefusal}
use Rattle.pf_cli.specs.Args.{view_of_hunt_args}
use Rattle.pf_command.specs.Hunts.{HuntAsksFor, MayShrink}
use Rattle.pf_command.proofs.seek.may_seek.Goals as goal

pub returns-in-Failure : goal.returns-in-Failure
returns-in-Failure c =
    let h = view_of_hunt_args c.args.args.now in
    let m = c.args.module.now in
    subst (λ s. MatchResult c.may_seek_failure.result (λ _. MayShrink h s m) (IsRefusal (HuntAsksFor h s m)))
    (sym c.in-Failure.is) c.may_seek_failure.ensures

pub returns-in-Outcomes : goal.returns-in-Outcomes
returns-in-Outcomes c = subst (λ s. MayShrink (view_of_hunt_args c.args.args.now) s c.args.module.now)
    (sym c.in-Outcomes.is) (tt {0})
