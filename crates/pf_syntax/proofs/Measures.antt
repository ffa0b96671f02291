-- Measures: at the end of a loop, and where they are exact, since no tree is deeper than it has nodes.
use Rattle.std.proofs.Common.{◌≡◌, ◌<◌, ◌≤◌, ◌+◌, ℕ, arith}
use Rattle.std.specs.Prelude.{max}
use Rattle.pf_syntax.specs.Measure.{capped, IsCappedMeasure, IsMeasure}
use Rattle.pf_syntax.specs.ExprPattern.{ExprPattern, ExprPatterns, no_expr_patterns, expr_pattern, expr_pattern_size}
use Rattle.pf_syntax.specs.ExprPattern.{expr_pattern_depth, expr_patterns_size, expr_patterns_depth}
use Rattle.pf_syntax.specs.ExprPattern as s
use Rattle.pf_syntax.specs.Expr.{Expr, Exprs, Condition, Branches, no_exprs, expr, no_tests, tests, no_branches, branch}
use Rattle.pf_syntax.specs.Expr.{expr_size, expr_depth, exprs_size, exprs_depth, condition_size, condition_depth}
use Rattle.pf_syntax.specs.Expr.{branches_size, branches_depth}
use Rattle.pf_syntax.specs.Expr as p
use Rattle.pf_syntax.specs.declared.measure.Measure.{Measure}

-- nothing is left, so what was measured is the whole
pub nothing_left : (total : Measure) (size depth s d : ℕ) → s ≡ 0 → d ≡ 0 → total.size ≤ 4294967295
    → total.depth ≤ 4294967295 → capped (total.size + s) ≡ capped size → capped (max total.depth d) ≡ capped depth
    → IsCappedMeasure total size depth
nothing_left total size depth s d no_size no_depth small shallow size_is depth_is = (omega arith, omega arith)

mutual
  pub expr_pattern_depth-size : (q : ExprPattern) → expr_pattern_depth q ≤ expr_pattern_size q
  expr_pattern_depth-size (s.integer n) = omega arith
  expr_pattern_depth-size (s.atom a) = omega arith
  expr_pattern_depth-size (s.text cs) = omega arith
  expr_pattern_depth-size (s.variable x at) = omega arith
  expr_pattern_depth-size s.anything = omega arith
  expr_pattern_depth-size (s.tuple qs) = omega (arith, expr_patterns_depth-size qs)
  expr_pattern_depth-size (s.list qs) = omega (arith, expr_patterns_depth-size qs)
  expr_pattern_depth-size (s.list_on qs q) = omega (arith, expr_patterns_depth-size qs, expr_pattern_depth-size q)

  expr_patterns_depth-size : (qs : ExprPatterns) → expr_patterns_depth qs ≤ expr_patterns_size qs
  expr_patterns_depth-size no_expr_patterns = omega arith
  expr_patterns_depth-size (expr_pattern q qs) = omega (arith, expr_pattern_depth-size q, expr_patterns_depth-size qs)

mutual
  pub expr_depth-size : (e : Expr) → expr_depth e ≤ expr_size e
  expr_depth-size (p.integer n) = omega arith
  expr_depth-size (p.atom a) = omega arith
  expr_depth-size (p.text cs) = omega arith
  expr_depth-size (p.variable x at) = omega arith
  expr_depth-size (p.anonymous at) = omega arith
  expr_depth-size (p.parentheses a) = omega (arith, expr_depth-size a)
  expr_depth-size (p.tuple es) = omega (arith, exprs_depth-size es)
  expr_depth-size (p.list es) = omega (arith, exprs_depth-size es)
  expr_depth-size (p.list_on es t) = omega (arith, exprs_depth-size es, expr_depth-size t)
  expr_depth-size (p.call f at es) = omega (arith, exprs_depth-size es)
  expr_depth-size (p.binary o a b) = omega (arith, expr_depth-size a, expr_depth-size b)
  expr_depth-size (p.negate a) = omega (arith, expr_depth-size a)
  expr_depth-size (p.and_also a b) = omega (arith, expr_depth-size a, expr_depth-size b)
  expr_depth-size (p.or_else a b) = omega (arith, expr_depth-size a, expr_depth-size b)
  expr_depth-size (p.send a b) = omega (arith, expr_depth-size a, expr_depth-size b)
  expr_depth-size (p.match q a) = omega (arith, expr_pattern_depth-size q, expr_depth-size a)
  expr_depth-size (p.case a bs) = omega (arith, expr_depth-size a, branches_depth-size bs)
  expr_depth-size (p.if_expression bs) = omega (arith, branches_depth-size bs)
  expr_depth-size (p.receive bs) = omega (arith, branches_depth-size bs)

  exprs_depth-size : (es : Exprs) → exprs_depth es ≤ exprs_size es
  exprs_depth-size no_exprs = omega arith
  exprs_depth-size (expr e es) = omega (arith, expr_depth-size e, exprs_depth-size es)

  condition_depth-size : (g : Condition) → condition_depth g ≤ condition_size g
  condition_depth-size no_tests = omega arith
  condition_depth-size (tests es g) = omega (arith, exprs_depth-size es, condition_depth-size g)

  branches_depth-size : (bs : Branches) → branches_depth bs ≤ branches_size bs
  branches_depth-size no_branches = omega arith
  branches_depth-size (branch q g es bs) = omega (
    arith,
    expr_pattern_depth-size q,
    condition_depth-size g,
    exprs_depth-size es,
    branches_depth-size bs,
  )

-- a measure of fewer nodes than it can count is exact
pub exact_measure : (m : Measure) (size depth : ℕ) → IsCappedMeasure m size depth → depth ≤ size → m.size < 4294967295
    → IsMeasure m size depth
exact_measure m size depth h le small =
    let x = h.0 in
    let y = h.1 in
    (omega arith, omega arith)
