use Rattle.std.proofs.Common.{◌≡◌, true, false, refl, subst, rules}
use Rattle.std.specs.Prelude.{Some}
use Rattle.pf_model.specs.Reports.{view_of_report}
use Rattle.pf_explore.specs.Branching.{IsNext}
use Rattle.pf_explore.proofs.Pending.{failing}
use Rattle.pf_explore.proofs.level.run_by.Goals as goal

pub returns-in-Some-false-clause-end : goal.returns-in-Some-false-clause-end
returns-in-Some-false-clause-end g c =
    let a = g.R.ScheduledRuns.asked c.args.runs.now in
    let made = c.in_ok-report.field-0 in
    let fails : made.report.verdict ≡ Some false = first_of (search rules, cc) in
    failing a.last a.job c.args.schedule.now made.points.items (view_of_report made.report) c.in_ok-report.ensures.run
    fails

pub returns-in_ok-next_of-in-Some-true-clause-end : goal.returns-in_ok-next_of-in-Some-true-clause-end
returns-in_ok-next_of-in-Some-true-clause-end g c =
    let made = c.in_ok-report.field-0 in
    let holds : made.report.verdict ≡ Some true = first_of (search rules, cc) in (
      view_of_report made.report,
      made.points.items,
      c.in_ok-report.ensures.run,
      (holds, refl),
      subst (λ es. IsNext c.args.most es c.in_ok-next_of-in-Some-true.field-0) c.as_slice.ensures.value
          c.in_ok-next_of-in-Some-true.ensures,
    )
