use Rattle.pf_cli.specs.Args.{view_of_hunt_args}
use Rattle.pf_command.proofs.Asking.{asked_for}
use Rattle.pf_command.proofs.seek.job_of.Goals as goal

pub returns : goal.returns
returns c =
    let h = view_of_hunt_args c.args.args.now in
    asked_for h h.sought c.args.module.now c.in_ok-share.field-0 c.number.result c.new.result
    c.in_ok-may_seek.ensures c.in_ok-share.ensures c.number.ensures.number c.new.ensures
