use Rattle.std.proofs.Common.{◌≡◌, [], ◌∷◌, None, Some, ap, sym, ◌∙◌}
use Rattle.std.specs.Prelude.{option_map}
use Rattle.std.proofs.lemmas.Result.{IfOk-weaker}
use Rattle.pf_json.specs.Facts.{Fact, facts_by_first, said}
use Rattle.pf_json.specs.Names.{named_root}
use Rattle.pf_json.specs.Objects.{facts_of}
use Rattle.pf_json.specs.Shapes.{shapes}
use Rattle.pf_json.specs.Views.{view_of_fact, views_of}
use Rattle.pf_json.proofs.After.{reported_else, reported_first}
use Rattle.pf_json.proofs.objects.facts_of.Goals as goal

pub returns-in-Some-2 : goal.returns-in-Some-2
returns-in-Some-2 c =
    let line = c.args.line.now in
    let facts = c.in-Some-2.facts in
    let no_name : named_root line ≡ None = sym c.in_ok-facts.ensures ∙ ap (option_map (λ v. views_of v.items))
    c.in_default.is in
    let shape : facts_by_first shapes line ≡ Some (views_of facts.items) = sym c.in_ok-facts-2.ensures
    ∙ ap (option_map (λ v. views_of v.items)) c.in-Some-2.is in
    reported_first (named_root line) (facts_by_first shapes line) (said line) (views_of facts.items) no_name shape

pub returns : goal.returns
returns c =
    let line = c.args.line.now in
    let no_name : named_root line ≡ None = sym c.in_ok-facts.ensures ∙ ap (option_map (λ v. views_of v.items))
    c.in_default.is in
    let no_shape : facts_by_first shapes line ≡ None = sym c.in_ok-facts-2.ensures
    ∙ ap (option_map (λ v. views_of v.items)) c.in_default-2.is in
    IfOk-weaker c.alone.result (λ v. views_of v.items ≡ view_of_fact c.said.result ∷ [])
    (λ v. views_of v.items ≡ facts_of line)
    (λ v e. e ∙ (ap (λ (f : Fact). f ∷ []) c.said.ensures ∙ reported_else (named_root line) (facts_by_first shapes line)
    (said line) no_name no_shape))
    c.alone.ensures
