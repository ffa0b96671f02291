use Rattle.std.proofs.Common.{Some, subst}
use Rattle.pf_cli.specs.Args.{view_of_run_args}
use Rattle.pf_cli_messages.specs.Explained.{FindsRun, ReportsProcesses, reported}
use Rattle.pf_process_status.proofs.Survivors.{if_ok}
use Rattle.pf_cli_messages.proofs.explained.explain_run.Goals as goal

pub returns-in-Some : goal.returns-in-Some
returns-in-Some c =
    let a = view_of_run_args c.args.args.now in
    let j = c.in-Some.job in
    let found = subst (FindsRun a c.args.source.now) c.in-Some.is c.in_ok-job.ensures in
    if_ok c.explain_job.result
    (λ text reports. reported found.1.0 j text.items found.1.1 found.1.2 found.0
    (subst (λ b. ReportsProcesses j.asked a.by_seed b text.items) c.bytes.ensures reports))
    c.explain_job.ensures
