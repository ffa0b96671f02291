use Rattle.std.proofs.Common.{List, [], ◌∷◌, ◌++◌, ap, ◌∙◌}
use Rattle.std.specs.Prelude.{flat_map}
use Rattle.std.proofs.lemmas.Result.{on_ok_weaker}
use Rattle.json.specs.Token as token
use Rattle.json.specs.Token.{Token}
use Rattle.pf_json.specs.Objects.{fact_tokens}
use Rattle.pf_json.specs.Views.{view_of_fact}
use Rattle.pf_json.proofs.Tokens.{object_after}
use Rattle.pf_json.proofs.objects.put_object.Goals as goal

pub returns-clause-tokens : goal.returns-clause-tokens
returns-clause-tokens c =
    let before = c.args.writer.now.tokens in
    let facts = c.args.facts.now in
    let begun = ap (λ (ts : List Token). ts ++ flat_map (λ f. fact_tokens (view_of_fact f)) facts)
    c.in_ok-begin_object.ensures.ok in
    let reported = ap (λ (ts : List Token). ts ++ token.end_object ∷ []) (c.in_ok-put_facts.ensures.tokens ∙ begun) in
    on_ok_weaker c.end_object.result (λ e. e ∙ (reported ∙ object_after before facts)) c.end_object.ensures.ok
