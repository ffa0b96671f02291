-- The first form of a source, where there is one.
use Rattle.std.proofs.Common.{◌≡◌, ℕ, List, Option, Some, sym, ap, ◌∙◌}
use Rattle.std.specs.Prelude.{option_map}
use Rattle.pf_tokens.specs.NumberedTokens.{NumberedToken}
use Rattle.pf_grammar.specs.Grammar.{HasHead}
use Rattle.pf_grammar.specs.Parse.{first_form}
use Rattle.pf_grammar.proofs.Whole.{begins_sound}

pub has_head : {X : Type 0} (atoms : List (List ℕ)) (ts : List NumberedToken) (f : X → ℕ × List NumberedToken)
    (o : Option X) (x : X) → option_map f o ≡ first_form atoms ts → o ≡ Some x → HasHead atoms ts
has_head atoms ts f o x e s = ((f x).0, (f x).1, begins_sound atoms ts (f x) (sym e ∙ ap (option_map f) s))
