-- The variables in scope as the top of a stack of slots.
use Rattle.std.specs.Prelude.{ℕ, List, drop}
use Rattle.pf_terms.specs.declared.term.Term.{Term}
use Rattle.pf_patterns.specs.Fit.{ValueScope}
use Rattle.pf_patterns.specs.Scopes.{scope_of}

-- the slots of the activation that begins at b
abbrev pub activation : List Term → ℕ → ValueScope
activation env b = scope_of (drop b env)
