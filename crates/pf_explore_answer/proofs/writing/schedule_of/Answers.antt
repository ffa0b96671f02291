use Rattle.std.proofs.Common.{◌≡◌, ◌∙◌, ap, map}
use Rattle.std.proofs.lemmas.Result.{IfOk-weaker}
use Rattle.pf_model.specs.Reports.{view_of_report}
use Rattle.pf_explore_answer.specs.Answers.{choices_of}
use Rattle.pf_explore_answer.proofs.Answering.{choices_are}
use Rattle.pf_explore_answer.proofs.writing.schedule_of.Goals as goal

pub returns : goal.returns
returns c =
    let r = c.args.report.now in
    IfOk-weaker c.choices_of.result (λ n. n.items ≡ map (λ e. e.choice) c.as_slice.result.now)
    (λ n. n.items ≡ choices_of (view_of_report r))
    (λ n e. e ∙ (ap (map (λ e. e.choice)) c.as_slice.ensures.value ∙ choices_are r)) c.choices_of.ensures
