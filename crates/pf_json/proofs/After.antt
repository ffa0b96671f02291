-- Facts after others.
use Rattle.std.proofs.Common.{◌≡◌, List, [], ◌∷◌, ◌++◌, ℕ, Option, Some, None, refl, ap, sym, ◌∙◌, append_assoc}
use Rattle.std.specs.Prelude.{option_map, option_and_then, unwrap_or}
use Rattle.pf_json.specs.Facts.{Fact, ShapePart, facts_by, or_else, part_step, with_fact}

-- these facts, and after them those that there are
abbrev pub following : List Fact → Option (List Fact) → Option (List Fact)
following fs o = option_map (λ gs. fs ++ gs) o

-- one more that may be there
pub one_more : (fs : List Fact) (f : Option Fact) (o : Option (List Fact))
    → following fs (option_map (with_fact f) o) ≡ following (fs ++ with_fact f []) o
one_more fs f None = refl
one_more fs None (Some gs) = ap Some (sym (append_assoc fs [] gs))
one_more fs (Some f) (Some gs) = ap Some (sym (append_assoc fs (f ∷ []) gs))

-- a part that is there
pub is_there : (fs : List Fact) (p : ShapePart) (ps : List ShapePart) (t rest : List ℕ) (f : Option Fact)
    → part_step p t ≡ Some (rest, f)
    → following fs (facts_by (p ∷ ps) t) ≡ following (fs ++ with_fact f []) (facts_by ps rest)
is_there fs p ps t rest f e =
    ap (λ (s : Option (List ℕ × Option Fact)).
    following fs (option_and_then (λ s. option_map (with_fact s.1) (facts_by ps s.0)) s)) e
    ∙ one_more fs f (facts_by ps rest)

-- and one that isn't
pub is_there_not : (fs : List Fact) (p : ShapePart) (ps : List ShapePart) (t : List ℕ) → part_step p t ≡ None
    → following fs (facts_by (p ∷ ps) t) ≡ None
is_there_not fs p ps t e =
    ap (λ (s : Option (List ℕ × Option Fact)).
    following fs (option_and_then (λ s. option_map (with_fact s.1) (facts_by ps s.0)) s)) e

-- what is reported of a line without a name and a shape
pub reported_else : (name shape : Option (List Fact)) (f : Fact) → name ≡ None → shape ≡ None
    → f ∷ [] ≡ unwrap_or (or_else name shape) (f ∷ [])
reported_else name shape f e d =
    sym (ap (λ (o : Option (List Fact)). unwrap_or (or_else o shape) (f ∷ [])) e
    ∙ ap (λ (o : Option (List Fact)). unwrap_or o (f ∷ [])) d)

-- and of one without a name that has a shape
pub reported_first : (name shape : Option (List Fact)) (f : Fact) (fs : List Fact) → name ≡ None → shape ≡ Some fs
    → fs ≡ unwrap_or (or_else name shape) (f ∷ [])
reported_first name shape f fs e d =
    sym (ap (λ (o : Option (List Fact)). unwrap_or (or_else o shape) (f ∷ [])) e
    ∙ ap (λ (o : Option (List Fact)). unwrap_or o (f ∷ [])) d)
