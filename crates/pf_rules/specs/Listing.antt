-- The functions that are kept by name and number of arguments, against those that a module defines and exports.
use Rattle.std.specs.Prelude.{◌≡◌, ℕ, Bool, ◌==◌, ◌&&◌, is_some, List}
use Rattle.std.specs.List.{list_any}
use Rattle.pf_syntax.specs.SyntaxTree.{Export, Head}
use Rattle.pf_rules.specs.Checks.{is_exported}
use Rattle.pf_rules.specs.Static.{own_in}
use Rattle.pf_rules.specs.declared.signatures.Signatures.{Signatures}

-- whether a function of this name with this number of arguments is kept
abbrev pub lists : Signatures → ℕ → ℕ → Bool
lists o f arity = list_any (λ k. (f == k.name) && (arity == k.arity)) o.signatures.keys

-- those of these functions are kept, and no others
pub record ListsFunctions (o : Signatures) (fs : List (List Head)) : Type 0 where
  pub same : (f arity : ℕ) → lists o f arity ≡ is_some (own_in fs f arity)

-- the exported functions are kept, and no others
abbrev pub Exports : Signatures → List Export → Type 0
Exports exported es = (f arity : ℕ) → lists exported f arity ≡ is_exported es f arity
