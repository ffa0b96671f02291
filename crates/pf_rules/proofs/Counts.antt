-- How many patterns and arguments are in a list of them.
use Rattle.std.proofs.Common.{◌≡◌, List, [], ◌∷◌, length, suc, refl, ap, arith}
use Rattle.pf_syntax.specs.SyntaxTree.{NodeTable}
use Rattle.pf_syntax.specs.SyntaxTreeOver.{exprs_at, expr_patterns_at}
use Rattle.pf_syntax.specs.declared.expr.ExprId.{ExprId}
use Rattle.pf_syntax.specs.declared.expr.ExprPatternId.{ExprPatternId}
use Rattle.pf_syntax.specs.Naming.{arity_of}
use Rattle.pf_rules.specs.Static.{parameters_of}

pub parameters_length : (b : NodeTable) (ids : List ExprPatternId) → parameters_of (expr_patterns_at b ids) ≡ length ids
parameters_length b [] = refl
parameters_length b (q ∷ ids) = ap suc (parameters_length b ids)

pub arity_length : (b : NodeTable) (ids : List ExprId) → arity_of (exprs_at b ids) ≡ length ids
arity_length b [] = refl
arity_length b (e ∷ ids) = omega (arith, arity_length b ids)
