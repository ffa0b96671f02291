-- Bound and unsafe variables: the sets at each point of a function clause, and how they pass through it.
use Rattle.std.specs.Prelude.{ℕ, ◌==◌, ◌||◌, not, Bool, if◌then◌else◌, List, [], ◌∷◌, ◌++◌, filter}
use Rattle.std.specs.List.{list_any}
use Rattle.pf_syntax.specs.ExprPattern as s
use Rattle.pf_syntax.specs.ExprPattern.{ExprPattern, ExprPatterns, no_expr_patterns, expr_pattern}
use Rattle.pf_syntax.specs.Expr as p
use Rattle.pf_syntax.specs.Expr.{Expr, Exprs, Branches, no_exprs, expr, no_branches, branch}

-- what is seen at a point of a function clause: the names of the variables that are bound, in the order of binding, and
-- of those that are unsafe
pub record Scope : Type 0 where
  pub bound : List ℕ
  pub unsafe : List ℕ

abbrev pub no_scope : Scope
no_scope = record { bound = []; unsafe = [] }

abbrev pub has : List ℕ → ℕ → Bool
has names x = list_any (λ y. y == x) names

-- the variable is unsafe
abbrev pub is_unsafe : Scope → ℕ → Bool
is_unsafe g x = has g.unsafe x

-- the variable is neither bound nor unsafe
abbrev pub is_new : Scope → ℕ → Bool
is_new g x = not (has g.bound x || is_unsafe g x)

-- a variable that is neither becomes bound
abbrev pub binding : Scope → ℕ → Scope
binding g x = if is_new g x then record { bound = g.bound ++ x ∷ []; unsafe = g.unsafe } else g

-- after a pattern, from left to right
abbrev mutual
  pub after_expr_pattern : Scope → ExprPattern → Scope
  after_expr_pattern g (s.variable x at) = binding g x
  after_expr_pattern g (s.tuple ps) = after_expr_patterns g ps
  after_expr_pattern g (s.list ps) = after_expr_patterns g ps
  after_expr_pattern g (s.list_on ps q) = after_expr_pattern (after_expr_patterns g ps) q
  after_expr_pattern g (s.integer n) = g
  after_expr_pattern g (s.atom a) = g
  after_expr_pattern g (s.text cs) = g
  after_expr_pattern g s.anything = g

  pub after_expr_patterns : Scope → ExprPatterns → Scope
  after_expr_patterns g no_expr_patterns = g
  after_expr_patterns g (expr_pattern q qs) = after_expr_patterns (after_expr_pattern g q) qs

-- after a construct: of the names that its clauses end with, each that was not bound before is unsafe
abbrev pub scope_leaving : Scope → List ℕ → Scope
scope_leaving g names = record { bound = g.bound; unsafe = g.unsafe ++ filter (λ x. not (has g.bound x)) names }

-- the bound and the unsafe ones together
abbrev pub names_in_scope : Scope → List ℕ
names_in_scope g = g.bound ++ g.unsafe

-- after an expression, from left to right, but in a match through the right side first. A clause begins with what is
-- seen at its construct, and a guard changes nothing
abbrev mutual
  pub after : Scope → Expr → Scope
  after g (p.integer n) = g
  after g (p.atom a) = g
  after g (p.text cs) = g
  after g (p.variable x at) = g
  after g (p.anonymous at) = g
  after g (p.parentheses a) = after g a
  after g (p.tuple es) = after_all g es
  after g (p.list es) = after_all g es
  after g (p.list_on es e) = after (after_all g es) e
  after g (p.call f at es) = after_all g es
  after g (p.binary o a b) = after (after g a) b
  after g (p.negate a) = after g a
  after g (p.and_also a b) = after (after g a) b
  after g (p.or_else a b) = after (after g a) b
  after g (p.send a b) = after (after g a) b
  after g (p.match q a) = after_expr_pattern (after g a) q
  after g (p.case a bs) = scope_leaving (after g a) (ends_of (after g a) bs)
  after g (p.if_expression bs) = scope_leaving g (ends_of g bs)
  after g (p.receive bs) = scope_leaving g (ends_of g bs)

  pub after_all : Scope → Exprs → Scope
  after_all g no_exprs = g
  after_all g (expr e es) = after_all (after g e) es

  -- what is seen at the ends of the clauses
  pub ends_of : Scope → Branches → List ℕ
  ends_of g no_branches = []
  ends_of g (branch q c es bs) = names_in_scope (after_all (after_expr_pattern g q) es) ++ ends_of g bs
