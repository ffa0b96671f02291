-- Patterns of the surface syntax, before the static rules.
use Rattle.std.specs.Prelude.{ℕ, ◌+◌, max, ℤ, List}

mutual
  -- a pattern: an integer, with its sign; an atom or a variable by the number of its name, a variable with the offset
  -- of its first byte; a string by its character codes; `_`; a tuple; a list of elements alone, or with a tail
  pub data ExprPattern : Type 0 where
    integer : ℤ → ExprPattern
    atom : ℕ → ExprPattern
    text : List ℕ → ExprPattern
    variable : ℕ → ℕ → ExprPattern
    anything : ExprPattern
    tuple : ExprPatterns → ExprPattern
    list : ExprPatterns → ExprPattern
    list_on : ExprPatterns → ExprPattern → ExprPattern

  pub data ExprPatterns : Type 0 where
    no_expr_patterns : ExprPatterns
    expr_pattern : ExprPattern → ExprPatterns → ExprPatterns

-- how many nodes a pattern has: a leaf is 1, and so is a list beside its elements and its tail
abbrev mutual
  pub expr_pattern_size : ExprPattern → ℕ
  expr_pattern_size (integer n) = 1
  expr_pattern_size (atom a) = 1
  expr_pattern_size (text cs) = 1
  expr_pattern_size (variable x at) = 1
  expr_pattern_size anything = 1
  expr_pattern_size (tuple ps) = 1 + expr_patterns_size ps
  expr_pattern_size (list ps) = 1 + expr_patterns_size ps
  expr_pattern_size (list_on ps q) = 1 + (expr_patterns_size ps + expr_pattern_size q)

  pub expr_patterns_size : ExprPatterns → ℕ
  expr_patterns_size no_expr_patterns = 0
  expr_patterns_size (expr_pattern p ps) = expr_pattern_size p + expr_patterns_size ps

-- how deep a pattern is: a leaf is 1, and else 1 more than the deepest part
abbrev mutual
  pub expr_pattern_depth : ExprPattern → ℕ
  expr_pattern_depth (integer n) = 1
  expr_pattern_depth (atom a) = 1
  expr_pattern_depth (text cs) = 1
  expr_pattern_depth (variable x at) = 1
  expr_pattern_depth anything = 1
  expr_pattern_depth (tuple ps) = 1 + expr_patterns_depth ps
  expr_pattern_depth (list ps) = 1 + expr_patterns_depth ps
  expr_pattern_depth (list_on ps q) = 1 + max (expr_patterns_depth ps) (expr_pattern_depth q)

  pub expr_patterns_depth : ExprPatterns → ℕ
  expr_patterns_depth no_expr_patterns = 0
  expr_patterns_depth (expr_pattern p ps) = max (expr_pattern_depth p) (expr_patterns_depth ps)
