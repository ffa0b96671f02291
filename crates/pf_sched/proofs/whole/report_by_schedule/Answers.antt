use Rattle.std.proofs.lemmas.Result.{IfOk-weaker}
use Rattle.pf_model.specs.Meaning.{schedule}
use Rattle.pf_model.specs.Reports.{view_of_report}
use Rattle.pf_sched.specs.Choosing.{choices}
use Rattle.pf_sched.proofs.Ended.{means_for}
use Rattle.pf_sched.proofs.Reported.{with_choices}
use Rattle.pf_sched.proofs.whole.report_by_schedule.Goals as goal

pub report_to_end-requires : goal.report_to_end-requires
report_to_end-requires c =
    let w = choices (schedule c.args.schedule.now) in
    (w, c.in_ok-execution.ensures w c.in_ok-of_schedule.ensures)

pub returns : goal.returns
returns c =
    let j = c.args.job.now in
    let cs = schedule c.args.schedule.now in
    IfOk-weaker _ _ _ (λ r reported.
    with_choices j.asked cs (view_of_report r)
    (means_for j (choices cs) c.in_ok-execution.execution
    (c.in_ok-execution.ensures (choices cs) c.in_ok-of_schedule.ensures) r reported))
    c.report_to_end.ensures
