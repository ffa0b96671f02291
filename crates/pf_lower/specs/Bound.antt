-- Which names are bound, where no variable is unsafe: then the bound ones alone decide, in the order of binding.
use Rattle.std.specs.Prelude.{ℕ, if◌then◌else◌, List, [], ◌∷◌, ◌++◌}
use Rattle.pf_syntax.specs.ExprPattern as s
use Rattle.pf_syntax.specs.ExprPattern.{ExprPattern, ExprPatterns, no_expr_patterns, expr_pattern}
use Rattle.pf_syntax.specs.Expr as p
use Rattle.pf_syntax.specs.Expr.{Expr, Exprs, no_exprs, expr}
use Rattle.pf_syntax.specs.Scope.{has}

-- a name that isn't bound becomes bound
abbrev pub with_bound : List ℕ → ℕ → List ℕ
with_bound names x = if has names x then names else names ++ x ∷ []

-- after a pattern, from left to right
abbrev mutual
  pub bound_by : List ℕ → ExprPattern → List ℕ
  bound_by names (s.variable x at) = with_bound names x
  bound_by names (s.tuple qs) = all_bound_by names qs
  bound_by names (s.list qs) = all_bound_by names qs
  bound_by names (s.list_on qs q) = bound_by (all_bound_by names qs) q
  bound_by names (s.integer z) = names
  bound_by names (s.atom a) = names
  bound_by names (s.text cs) = names
  bound_by names s.anything = names

  pub all_bound_by : List ℕ → ExprPatterns → List ℕ
  all_bound_by names no_expr_patterns = names
  all_bound_by names (expr_pattern q qs) = all_bound_by (bound_by names q) qs

-- after an element of a body: a match alone binds, after its right side
abbrev pub bound_after : List ℕ → Expr → List ℕ
bound_after names (p.match q a) = bound_by (bound_after names a) q
bound_after names _ = names

-- after all elements of a body
abbrev pub all_bound_after : List ℕ → Exprs → List ℕ
all_bound_after names no_exprs = names
all_bound_after names (expr e es) = all_bound_after (bound_after names e) es

-- an expression that is no match
abbrev pub IsNoMatch : Expr → Type 0
IsNoMatch (p.match q a) = ⊥
IsNoMatch _ = Unit {0}
