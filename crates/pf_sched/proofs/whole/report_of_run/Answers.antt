use Rattle.std.proofs.lemmas.Result.{IfOk-weaker}
use Rattle.pf_sched.specs.Choosing.{choosing_of}
use Rattle.pf_sched.proofs.Ended.{means_for}
use Rattle.pf_sched.proofs.whole.report_of_run.Goals as goal

pub report_to_end-requires : goal.report_to_end-requires
report_to_end-requires c = (choosing_of c.args.by_seed c.args.job.now.asked, c.in_ok-execution.ensures)

pub returns : goal.returns
returns c =
    let j = c.args.job.now in
    IfOk-weaker _ _ _ (means_for j (choosing_of c.args.by_seed j.asked) c.in_ok-execution.execution
    c.in_ok-execution.ensures) c.report_to_end.ensures
