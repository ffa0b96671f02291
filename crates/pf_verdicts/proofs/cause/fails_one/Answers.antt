use Rattle.std.proofs.Common.{◌≡◌, rules, tests, sym, ◌∙◌}
use Rattle.std.specs.List.{list_any}
use Rattle.std.proofs.lemmas.Iterator.{YieldsList-from_slice}
use Rattle.std.proofs.lemmas.Iterator.Search.{any_from_yields_List}
use Rattle.pf_model.specs.Reports.{view_of_report}
use Rattle.pf_property.specs.Views.{property_of}
use Rattle.pf_verdicts.specs.Causes.{fails_by}
use Rattle.pf_verdicts.proofs.Mapped.{any-map}
use Rattle.pf_verdicts.proofs.cause.fails_one.Goals as goal

pub returns : goal.returns
returns c =
    let ps = c.args.properties.now in
    let r = view_of_report c.args.report.now in
    let one : c.any.result ≡ list_any (λ p. fails_by r (property_of p)) ps =
    any_from_yields_List (λ p. fails_by r (property_of p)) _ _ _ c.any.ensures.ran
    (YieldsList-from_slice ps cc) (λ x b q k. search (rules, tests)) in
    one ∙ sym (any-map (fails_by r) property_of ps)
