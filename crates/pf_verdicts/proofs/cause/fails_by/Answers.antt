use Rattle.std.proofs.Common.{sym, ap, ◌∙◌}
use Rattle.pf_model.specs.Properties.{verdict}
use Rattle.pf_model.specs.Reports.{view_of_outcome}
use Rattle.pf_model.specs.Shrinking.{is_failure}
use Rattle.pf_property.proofs.Shown.{of_events}
use Rattle.pf_property.specs.Views.{labels_of, property_of}
use Rattle.pf_verdicts.proofs.cause.fails_by.Goals as goal

pub returns : goal.returns
returns c =
    let p = property_of c.args.property.now in
    let o = view_of_outcome c.args.report.now.outcome in
    let es = c.args.report.now.events.items in
    c.is_failure.ensures ∙ ap is_failure (c.verdict.ensures
    ∙ ap (λ xs. verdict p (labels_of xs) o) c.as_slice.ensures.value ∙ ap (λ ls. verdict p ls o) (sym (of_events es)))
