use Rattle.std.proofs.Common.{◌≡◌, map, ap, sym, ◌∙◌}
use Rattle.pf_model.specs.Properties.{verdict}
use Rattle.pf_model.specs.Reports.{view_of_event, view_of_outcome}
use Rattle.pf_property.specs.Views.{labels_in, labels_of}
use Rattle.pf_property.proofs.Shown.{of_events}
use Rattle.pf_sched.proofs.whole.report_of_events.Goals as goal

pub returns : goal.returns
returns c =
    let j = c.args.job.now in
    let es = c.args.events.items in
    let o = c.in_ok-outcome.outcome in
    let reported : c.verdict-verdict.result ≡ verdict j.asked.property (labels_in (map view_of_event es))
    (view_of_outcome o) =
    c.verdict-verdict.ensures ∙ ap (λ k. verdict k.asked.property (labels_of c.as_slice.result.now) (view_of_outcome o))
    c.job.view_is
    ∙ ap (λ xs. verdict j.asked.property (labels_of xs) (view_of_outcome o))
    (c.as_slice.ensures.value ∙ c.shrink_to_fit.ensures.items)
    ∙ ap (λ ls. verdict j.asked.property ls (view_of_outcome o)) (sym (of_events es)) in
    record {
      events = ap (map view_of_event) c.shrink_to_fit.ensures.items;
      outcome = c.in_ok-outcome.ensures.outcome;
      steps = c.steps-steps.ensures;
      verdict = reported;
    }
