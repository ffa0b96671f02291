use Rattle.std.proofs.Common.{map, sym, subst}
use Rattle.pf_model.specs.Reports.{view_of_event, view_of_report}
use Rattle.pf_sched.specs.Parts.{Executes}
use Rattle.pf_sched.proofs.Reported.{means}
use Rattle.pf_sched.proofs.whole.report_of_execution.Goals as goal

pub returns : goal.returns
returns c cs first =
    let j = c.args.job.now in
    let x = c.complete.new.self in
    let all = c.in_ok-complete.ensures cs first in
    let reported = c.in_ok-report.ensures in
    let run = subst (λ es. Executes j cs es x) (sym all.2) all.1 in
    means j cs (map view_of_event c.complete.new.trace.items) x run all.3
    (view_of_report c.in_ok-report.report) reported
