-- How many nodes a pattern has.
use Rattle.std.specs.Prelude.{ℕ, ◌+◌}
use Rattle.pf_syntax.specs.Pattern.{Pattern, Patterns, any, new, slot, known, tuple_of, cons_of, never, no_patterns}
use Rattle.pf_syntax.specs.Pattern.{pattern}

abbrev mutual
  pub pattern_size : Pattern → ℕ
  pattern_size any = 1
  pattern_size new = 1
  pattern_size (slot x) = 1
  pattern_size (known v) = 1
  pattern_size (tuple_of ps) = 1 + patterns_size ps
  pattern_size (cons_of p q) = 1 + pattern_size p + pattern_size q
  pattern_size never = 1

  pub patterns_size : Patterns → ℕ
  patterns_size no_patterns = 0
  patterns_size (pattern p ps) = 1 + pattern_size p + patterns_size ps
