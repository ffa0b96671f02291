use Rattle.std.proofs.Common.{◌≡◌, rules, tests, sym, ◌∙◌}
use Rattle.std.specs.Prelude.{position}
use Rattle.std.proofs.lemmas.Iterator.{YieldsList-from_slice}
use Rattle.std.proofs.lemmas.Iterator.Search.{position_from_yields_List}
use Rattle.pf_model.specs.Reports.{view_of_report}
use Rattle.pf_property.specs.Views.{property_of}
use Rattle.pf_verdicts.specs.Causes.{fails_by}
use Rattle.pf_verdicts.proofs.Mapped.{position-map}
use Rattle.pf_verdicts.proofs.cause.first_failed.Goals as goal

pub returns : goal.returns
returns c =
    let ps = c.args.properties.now in
    let r = view_of_report c.args.report.now in
    let index : c.position.result ≡ position (λ p. fails_by r (property_of p)) ps =
    position_from_yields_List (λ p. fails_by r (property_of p)) _ _ _ c.position.ensures.ran
    (YieldsList-from_slice ps cc) (λ x b q k. search (rules, tests)) in
    index ∙ sym (position-map (fails_by r) property_of ps)
