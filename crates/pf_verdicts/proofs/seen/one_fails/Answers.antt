use Rattle.std.proofs.Common.{◌≡◌, rules, tests, Bool, sym, ◌∙◌}
use Rattle.std.specs.List.{list_any}
use Rattle.std.proofs.lemmas.Iterator.{YieldsList-from_slice}
use Rattle.std.proofs.lemmas.Iterator.Search.{any_from_yields_List}
use Rattle.pf_model.specs.Properties.{Property}
use Rattle.pf_model.specs.Reports.{view_of_outcome}
use Rattle.pf_model.specs.Shrinking.{is_failure}
use Rattle.pf_property.specs.Views.{property_of}
use Rattle.pf_verdicts.specs.Watching.{verdict_seen}
use Rattle.pf_verdicts.proofs.Mapped.{any-map}
use Rattle.pf_verdicts.proofs.seen.one_fails.Goals as goal

pub returns : goal.returns
returns c =
    let ps = c.args.properties.now in
    let v = c.args.seen.now in
    let fails : Property → Bool = λ q. is_failure (verdict_seen v.verdict (view_of_outcome v.outcome) q) in
    let one : c.any.result ≡ list_any (λ p. fails (property_of p)) ps =
    any_from_yields_List (λ p. fails (property_of p)) _ _ _ c.any.ensures.ran
    (YieldsList-from_slice ps cc) (λ x b q k. search (rules, tests)) in
    one ∙ sym (any-map fails property_of ps)
