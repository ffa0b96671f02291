use Rattle.std.proofs.Common.{arith}
use Rattle.std.proofs.lemmas.List.{length-map}
use Rattle.pf_model.specs.Reports.{view_of_event, view_of_report}
use Rattle.pf_sched.proofs.BySeed.{means_by_seed}
use Rattle.pf_verdicts.proofs.Few.{few_events}
use Rattle.pf_verdicts.proofs.run.judged_by_all.Goals as goal

pub report_of_run-requires : goal.report_of_run-requires
report_of_run-requires c none = absurd cc

pub judged_of_report-requires : goal.judged_of_report-requires
judged_of_report-requires c =
    let r = c.in_ok-report.report in
    let few = few_events c.args.by c.args.job.now (view_of_report r) c.limit-limit.ensures.valid
    c.in_ok-report.ensures in
    let same = length-map r.events.items view_of_event in
    omega (arith, few, same)

pub returns : goal.returns
returns c =
    let r = view_of_report c.in_ok-report.report in
    (r, means_by_seed c.args.by c.args.job.now.asked r c.in_ok-report.ensures, c.judged_of_report.ensures)
