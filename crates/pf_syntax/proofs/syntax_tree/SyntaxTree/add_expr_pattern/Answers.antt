use Rattle.std.proofs.Common.{◌∙◌, ap, sym, subst, length, arith}
use Rattle.pf_syntax.specs.ExprPattern.{expr_pattern_size, expr_pattern_depth}
use Rattle.pf_syntax.specs.Measure.{IsMeasure}
use Rattle.pf_syntax.specs.SyntaxTree.{ExprArena}
use Rattle.pf_syntax.specs.SyntaxTreeOver.{expr_pattern_over, with_node_table, with_expr_pattern}
use Rattle.pf_syntax.specs.SyntaxTreeOver.{ExprPatternPartsAreThere}
use Rattle.pf_syntax.proofs.NodeTableFolds.{count-expr_patterns}
use Rattle.pf_syntax.proofs.NodeTableGrown.{with_expr_pattern_sound, with_expr_pattern_view, same_expr_patterns_sound}
use Rattle.pf_syntax.proofs.Measures.{exact_measure, expr_pattern_depth-size}
use Rattle.pf_syntax.specs.declared.measure.Measure.{Measure}
use Rattle.pf_syntax.proofs.syntax_tree.SyntaxTree.add_expr_pattern.Goals as goal

pub invariant_of-self : goal.invariant_of-self
invariant_of-self c = same_expr_patterns_sound c.self.inside c.push.new.self c.in_err-push.ensures.items
    c.self.invariant

pub invariant_of-self-2 : goal.invariant_of-self-2
invariant_of-self-2 c =
    let node = c.args.node in
    let tree = expr_pattern_over c.args.self.now.node_table node in
    let exact = exact_measure c.expr_pattern_node_measure.result (expr_pattern_size tree) (expr_pattern_depth tree)
    c.expr_pattern_node_measure.ensures (expr_pattern_depth-size tree) c.in_ok-measure.ensures.small in
    let kept = subst (λ (m : Measure). IsMeasure m (expr_pattern_size tree) (expr_pattern_depth tree))
    (sym c.in_ok-measure.ensures.same) exact in
    let measured = subst (λ (m : ExprArena). IsMeasure c.in_ok-measure.measure
    (expr_pattern_size (expr_pattern_over m.node_table node))
    (expr_pattern_depth (expr_pattern_over m.node_table node))) (sym c.self.view_is) kept in
    let is_there = subst (λ (m : ExprArena). ExprPatternPartsAreThere m.node_table node)
    (sym c.self.view_is) c.requires in
    with_expr_pattern_sound c.self.inside (record { node = node; measure = c.in_ok-measure.measure }) c.push.new.self
    c.in_ok-push.ensures.items c.self.invariant is_there measured

pub returns-clause-id : goal.returns-clause-id
returns-clause-id c =
    let e = ap (λ (m : ExprArena). length m.node_table.expr_patterns) c.self.view_is in
    omega (arith, e, count-expr_patterns c.self.inside)

pub returns-clause-added : goal.returns-clause-added
returns-clause-added c =
    with_expr_pattern_view c.self.inside (record { node = c.args.node; measure = c.in_ok-measure.measure })
    c.push.new.self c.in_ok-push.ensures.items c.self.invariant
    ∙ ap (λ (m : ExprArena). with_node_table m (with_expr_pattern m.node_table c.args.node)) c.self.view_is
