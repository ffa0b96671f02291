use Rattle.std.proofs.Common.{sym, subst}
use Rattle.std.specs.Prelude.{MatchResult}
use Rattle.pf_sched.specs.Asked.{IsRefusal}
use Rattle.pf_cli.specs.Args.{view_of_hunt_args}
use Rattle.pf_cli.specs.declared.args.HuntGoal.TheVariants.{Failure}
use Rattle.pf_command.specs.Hunts.{HuntAsksFor, MayShrink}
use Rattle.pf_command.proofs.seek.may_seek_failure.Goals as goal

pub returns-in-Some : goal.returns-in-Some
returns-in-Some c =
    let h = view_of_hunt_args c.args.args.now in
    let m = c.args.module.now in
    subst (λ o. MatchResult c.may_shrink.result (λ _. MayShrink h (Failure o) m)
    (IsRefusal (HuntAsksFor h (Failure o) m))) (sym c.in-Some.is)
    c.may_shrink.ensures

pub returns-in-None : goal.returns-in-None
returns-in-None c = subst (λ o. MayShrink (view_of_hunt_args c.args.args.now) (Failure o) c.args.module.now)
    (sym c.in-None.is) (tt {0})
