use Rattle.pf_cli.specs.Args.{view_of_hunt_args}
use Rattle.pf_hunt_suite.specs.Ends.{request_for}
use Rattle.pf_hunt_suite.proofs.Asking.{asked_as}
use Rattle.pf_hunt_suite.proofs.hunt.job_for.Goals as goal

pub returns : goal.returns
returns c =
    let h = view_of_hunt_args c.args.args.now in
    asked_as c.args.module.now c.in_ok-share.field-0 c.number.result h.edition _
    (request_for h c.args.root.now) c.new.result
    c.in_ok-share.ensures c.number.ensures.number c.in_ok-request.ensures c.new.ensures
