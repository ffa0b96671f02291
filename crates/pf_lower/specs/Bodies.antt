-- Elements of bodies, and clauses, as they were built.
use Rattle.std.specs.Prelude.{◌≡◌, ℕ, true, List, [], ◌∷◌}
use Rattle.std.specs.List.{All}
use Rattle.pf_syntax.specs.Expr.{Expr}
use Rattle.pf_syntax.specs.SyntaxTree.{NodeTable, Head, expr_pattern_at, expr_at}
use Rattle.pf_syntax.specs.SyntaxTreeOver.{condition_over, exprs_at}
use Rattle.pf_syntax.specs.Scope.{Scope, after_expr_pattern}
use Rattle.pf_syntax.specs.Naming.{Names, GuardIs, BodyIs}
use Rattle.pf_syntax.specs.Tree.{Tree, Guard, bind}
use Rattle.pf_syntax.specs.Module.{Checked, Tables, pattern_at}
use Rattle.pf_syntax.specs.Over.{patterns_at, part_over, guard_over}
use Rattle.pf_syntax.specs.Within.{PatternRepresents, OperandRepresents, ClauseRepresents}
use Rattle.pf_syntax.specs.declared.expr.ExprId.{ExprId}
use Rattle.pf_syntax.specs.declared.expr.Branch.{Branch}
use Rattle.pf_syntax.specs.declared.node.Clause.{Clause}
use Rattle.pf_lower.specs.declared.bodies.Element.{Element}
use Rattle.pf_rules.specs.Static.{names_of_module, expr_pattern_faults, condition_faults, exprs_faults}
use Rattle.pf_rules.specs.Formed.{ConditionFormed, HasFirst, HasAlternative, ExprsFormed}
use Rattle.pf_lower.specs.Bound.{bound_after}
use Rattle.pf_lower.specs.Built.{ExprPatternBecomes, ElementMeans}

-- the patterns and the value of an element are in the tables
abbrev pub ElementRepresents : Tables → Element → Type 0
ElementRepresents t e = All (PatternRepresents t) e.patterns.items × OperandRepresents t e.value

-- elements before the rest of a body
abbrev pub bound_elements : Tables → List Element → Tree → Tree
bound_elements t [] rest = rest
bound_elements t (e ∷ es) rest = bind (patterns_at t e.patterns.items) (part_over t e.value) (bound_elements t es rest)

abbrev pub ElementBuilt : List (List Head) → Checked → List ℕ → Expr → Element → Type 0
ElementBuilt fs t names e x = ElementMeans fs t names e x.patterns.items x.value

-- each element, where the ones before it bound what they bind
abbrev pub EachElementMeans : List (List Head) → NodeTable → Checked → List ℕ → List ExprId → List Element → Type 0
EachElementMeans fs b t names [] [] = Unit {0}
EachElementMeans fs b t names (id ∷ ids) (x ∷ xs) =
    ElementBuilt fs t names (expr_at b id.0) x × EachElementMeans fs b t (bound_after names (expr_at b id.0)) ids xs
EachElementMeans fs b t names _ _ = ⊥

-- the guard and the body of a clause, after its pattern
module _ (n : Names) (b : NodeTable) (names : List ℕ) (r : Branch) where
  abbrev pub BranchGuardBecomes : Guard → Type 0
  BranchGuardBecomes d = (g : Scope) → g.bound ≡ names → expr_pattern_faults g (expr_pattern_at b r.expr_pattern.0) ≡ []
      → HasAlternative (condition_over b r.condition) → ConditionFormed (condition_over b r.condition)
      → condition_faults n (after_expr_pattern g (expr_pattern_at b r.expr_pattern.0))
      (condition_over b r.condition) ≡ []
      → GuardIs n (after_expr_pattern g (expr_pattern_at b r.expr_pattern.0)) (condition_over b r.condition) d

  abbrev pub BranchBodyBecomes : Tree → Type 0
  BranchBodyBecomes x = (g : Scope) → g.bound ≡ names → expr_pattern_faults g (expr_pattern_at b r.expr_pattern.0) ≡ []
      → HasFirst (exprs_at b r.body.items) → ExprsFormed true (exprs_at b r.body.items)
      → exprs_faults n (after_expr_pattern g (expr_pattern_at b r.expr_pattern.0)) (exprs_at b r.body.items) ≡ []
      → BodyIs n (after_expr_pattern g (expr_pattern_at b r.expr_pattern.0)) (exprs_at b r.body.items) x

-- a clause of a construct
pub record BranchMeans (fs : List (List Head)) (b : NodeTable) (m : Checked) (names : List ℕ) (r : Branch)
    (c : Clause) : Type 0 where
  pub is_there : ClauseRepresents m.tables c
  pub pattern : ExprPatternBecomes (names_of_module m.atoms fs) names (expr_pattern_at b r.expr_pattern.0)
      (pattern_at m.tables c.pattern.0)
  pub guard : BranchGuardBecomes (names_of_module m.atoms fs) b names r (guard_over m.tables c.guard)
  pub body : BranchBodyBecomes (names_of_module m.atoms fs) b names r (part_over m.tables c.body)
