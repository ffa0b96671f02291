-- The tokens of the code's own facts.
use Rattle.std.proofs.Common.{◌≡◌, List, [], ◌∷◌, ◌++◌, ap, sym, ◌∙◌, append_assoc}
use Rattle.std.specs.Prelude.{flat_map}
use Rattle.std.proofs.lemmas.List.Folds.{flat_map-map}
use Rattle.json.specs.Token as token
use Rattle.json.specs.Token.{Token}
use Rattle.pf_json.specs.Objects.{fact_tokens, object_tokens}
use Rattle.pf_json.specs.Views.{view_of_fact, views_of}
use Rattle.pf_json.specs.declared.facts.Fact.{Fact}

-- a beginning, each fact and an end, after other tokens, are an object after them
pub object_after : (before : List Token) (fs : List Fact)
    → before ++ token.begin_object ∷ [] ++ flat_map (λ f. fact_tokens (view_of_fact f)) fs ++ token.end_object ∷ []
    ≡ before ++ object_tokens (views_of fs)
object_after before fs =
    ap (λ (ts : List Token). ts ++ token.end_object ∷ [])
    (append_assoc before (token.begin_object ∷ []) (flat_map (λ f. fact_tokens (view_of_fact f)) fs))
    ∙ (append_assoc before (token.begin_object ∷ flat_map (λ f. fact_tokens (view_of_fact f)) fs)
    (token.end_object ∷ [])
    ∙ ap (λ (ts : List Token). before ++ (token.begin_object ∷ ts ++ token.end_object ∷ []))
    (sym (flat_map-map fact_tokens view_of_fact fs)))
