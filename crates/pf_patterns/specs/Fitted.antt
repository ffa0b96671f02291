-- What a fit leaves on the stack of slots.
use Rattle.std.specs.Prelude.{◌≡◌, ℕ, Bool, List, ◌++◌, drop, Option}
use Rattle.pf_terms.specs.declared.term.Term.{Term}
use Rattle.pf_patterns.specs.Fit.{ValueScope}
use Rattle.pf_patterns.specs.Scopes.{scope_if}
use Rattle.pf_patterns.specs.Slots.{activation}

-- slots were pushed; where the value fits, the activation above `base` then is what the fit means
pub record Fitted (base : ℕ) (before after : List Term) (fits : Bool) (meant : ValueScope
    → Option ValueScope) : Type 0 where
  pub added : List Term
  pub grown : after ≡ before ++ added
  pub fit : meant (activation before base) ≡ scope_if fits (drop base after)
