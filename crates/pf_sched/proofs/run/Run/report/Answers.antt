use Rattle.std.proofs.Common.{◌≡◌, sym, ap, ◌∙◌, subst}
use Rattle.pf_terms.specs.Atoms.{name_of}
use Rattle.pf_model.specs.Properties.{some_label, verdict}
use Rattle.pf_model.specs.Reports.{view_of_outcome}
use Rattle.pf_property.specs.Judging.{rules_out}
use Rattle.pf_property.specs.Views.{labels_in}
use Rattle.pf_trace.specs.Written.{report_in}
use Rattle.pf_trace.specs.declared.lines.WrittenReport.{WrittenReport}
use Rattle.pf_sched.specs.Closing.{ClosesRun}
use Rattle.pf_sched.specs.Parts.{events_in}
use Rattle.pf_sched.proofs.Reported.{means}
use Rattle.pf_sched.proofs.run.Run.report.Goals as goal

pub returns : goal.returns
returns c cs run over =
    let j = c.args.job.now in
    let es = events_in c.args.self in
    let ls = labels_in es in
    let o = view_of_outcome c.in_ok-outcome.outcome in
    let same = ap (λ k. k.asked.property) c.job.view_is in
    let reported : c.judge-verdict.result ≡ verdict j.asked.property ls o =
    c.judge-verdict.ensures ls (subst (λ p. c.args.self.written.ruled_out ≡ some_label (rules_out p) ls)
    (sym same) run.ruled_out) ∙ ap (λ p. verdict p ls o) same in
    let r : WrittenReport = record {
      lines = c.finish.result;
      outcome = c.in_ok-outcome.outcome;
      steps =
          c.steps-steps.result;
      verdict = c.judge-verdict.result;
    } in
    let closes : ClosesRun j es c.args.self.execution.system (report_in r) =
    record {
      events = c.finish.ensures.events;
      outcome = c.in_ok-outcome.ensures.outcome;
      steps = c.steps-steps.ensures;
      verdict = reported;
    } in (
      (
        means j cs es c.args.self.execution run.run over (report_in r) closes,
        c.finish.ensures.written (name_of j.asked.code.atoms) run.written,
      ),
      c.finish.ensures.events,
    )
