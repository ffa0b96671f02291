use Rattle.std.proofs.Common.{◌≡◌, ◌+◌, drop, get_or, ap, arith}
use Rattle.std.proofs.lemmas.List.{at_drop_more, at_drop_all}
use Rattle.pf_syntax.specs.ExprPattern.{expr_patterns_depth, expr_pattern}
use Rattle.pf_syntax.specs.SyntaxTree.{expr_pattern_at}
use Rattle.pf_syntax.specs.SyntaxTreeOver.{expr_patterns_at}
use Rattle.pf_syntax.specs.declared.expr.ExprPatternId.{ExprPatternId}
use Rattle.pf_static_check.proofs.Passing.{expr_patterns_more, expr_patterns_all, underway_first}
use Rattle.pf_static_check.proofs.walk.ClauseWalk.+expr_patterns.Goals as goal

pub expr_patterns-loop-part-init : goal.expr_patterns-loop-part-init
expr_patterns-loop-part-init t c = record { underway = underway_first c.args.self.now _ _; shallow = omega arith }

pub expr_patterns-loop-part-preserved : goal.expr_patterns-loop-part-preserved
expr_patterns-loop-part-preserved t c =
    let node_table = c.args.syntax.now.node_table in
    let parts = c.args.parts.now in
    let i = c.loop-part.part-index in
    let d : ExprPatternId = record { 0 = 0 } in
    let split : expr_patterns_at node_table (drop i parts) ≡ expr_pattern
    (expr_pattern_at node_table (get_or parts i d).0) (expr_patterns_at node_table (drop (i + 1) parts)) =
    at_drop_more (λ qs. expr_patterns_at node_table qs) parts i d c.loop-part-test.true in
    record {
      underway = expr_patterns_more c.args.self.now c.loop-part.self c.expr_pattern.new.self
          (expr_patterns_at node_table parts) (expr_patterns_at node_table (drop i parts))
          (expr_patterns_at node_table (drop (i + 1) parts)) _ split c.loop-part.invariant.underway
          c.in_ok-expr_pattern.ensures;
      shallow = omega (arith, c.loop-part.invariant.shallow, ap expr_patterns_depth split);
    }

pub expr_patterns-returns : goal.expr_patterns-returns
expr_patterns-returns t c =
    let node_table = c.args.syntax.now.node_table in
    let parts = c.args.parts.now in
    expr_patterns_all c.args.self.now c.loop-part.self (expr_patterns_at node_table parts)
    (expr_patterns_at node_table (drop c.loop-part.part-index parts))
    (at_drop_all (λ qs. expr_patterns_at node_table qs) parts c.loop-part.part-index c.loop-part-test.false)
    c.loop-part.invariant.underway
