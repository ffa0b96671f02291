-- Patterns, over variables that are named by their slots in scope.
use Rattle.std.specs.Prelude.{ℕ}
use Rattle.pf_terms.specs.Value.{Value}

mutual
  -- a pattern: `_`, a variable that it binds, a variable that is bound, a value, a tuple, a list by its first element
  -- and its tail, or what fits nothing. What it binds has no number: it takes the next slot in scope, from left to
  -- right
  pub data Pattern : Type 0 where
    any : Pattern
    new : Pattern
    slot : ℕ → Pattern
    known : Value → Pattern
    tuple_of : Patterns → Pattern
    cons_of : Pattern → Pattern → Pattern
    never : Pattern

  -- the patterns of a tuple's elements, of a function's arguments, or of a chain of matches
  pub data Patterns : Type 0 where
    no_patterns : Patterns
    pattern : Pattern → Patterns → Patterns
