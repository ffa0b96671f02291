use Rattle.std.proofs.Common.{[], Some}
use Rattle.pf_cli.specs.Args.{view_of_hunt_args}
use Rattle.pf_cli.specs.declared.args.HuntGoal.TheVariants.{Failure}
use Rattle.pf_cli_messages.specs.Explained.{AsksOf}
use Rattle.pf_command.specs.Hunts.{HuntAsksFor, shrinking_of, shrinking_refused}
use Rattle.pf_command.proofs.Asking.{refusal_weaker}
use Rattle.pf_command.proofs.seek.may_shrink.Goals as goal

pub returns-in-Err : goal.returns-in-Err
returns-in-Err c =
    let h = view_of_hunt_args c.args.args.now in
    let m = c.args.module.now in
    let runs = c.args.runs in
    refusal_weaker (AsksOf (shrinking_of h h.request.property [] runs) m) (HuntAsksFor h (Failure (Some runs)) m)
    (λ code is. shrinking_refused runs m code is)
    c.in-Err.refusal c.in-Err.ensures
