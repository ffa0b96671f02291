use Rattle.std.proofs.Common.{sym, subst}
use Rattle.std.specs.Prelude.{IfOk}
use Rattle.pf_model.specs.Reports.{view_of_report}
use Rattle.pf_strategy.specs.Noted.{MakesChoices}
use Rattle.pf_explore_answer.proofs.job_runs.JobRunsScheduledRuns.run.Goals as goal

pub returns-in-Some-clause-run : goal.returns-in-Some-clause-run
returns-in-Some-clause-run c =
    subst (λ p. IfOk c.run_with_last.result (λ m. MakesChoices p c.args.self.now.job.now.asked c.args.schedule.now
    m.points.items (view_of_report m.report))) (sym c.in-Some.is) c.run_with_last.ensures

pub returns-in-None-clause-run : goal.returns-in-None-clause-run
returns-in-None-clause-run c =
    subst (λ p. IfOk c.free_run.result (λ m. MakesChoices p c.args.self.now.job.now.asked c.args.schedule.now
    m.points.items (view_of_report m.report))) (sym c.in-None.is) c.free_run.ensures
