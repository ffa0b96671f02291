use Rattle.std.proofs.Common.{◌∙◌, ap, sym, subst, length, arith}
use Rattle.pf_syntax.specs.Expr.{expr_size, expr_depth}
use Rattle.pf_syntax.specs.Measure.{IsMeasure}
use Rattle.pf_syntax.specs.SyntaxTree.{ExprArena}
use Rattle.pf_syntax.specs.SyntaxTreeOver.{expr_over, with_node_table, with_expr, ExprPartsAreThere}
use Rattle.pf_syntax.proofs.NodeTableFolds.{count-exprs}
use Rattle.pf_syntax.proofs.NodeTableGrown.{with_expr_sound, with_expr_view, same_exprs_sound}
use Rattle.pf_syntax.proofs.Measures.{exact_measure, expr_depth-size}
use Rattle.pf_syntax.specs.declared.measure.Measure.{Measure}
use Rattle.pf_syntax.proofs.syntax_tree.SyntaxTree.add_expr.Goals as goal

pub invariant_of-self : goal.invariant_of-self
invariant_of-self c = same_exprs_sound c.self.inside c.push.new.self c.in_err-push.ensures.items c.self.invariant

pub invariant_of-self-2 : goal.invariant_of-self-2
invariant_of-self-2 c =
    let node = c.args.node in
    let tree = expr_over c.args.self.now.node_table node in
    let exact = exact_measure c.expr_node_measure.result (expr_size tree) (expr_depth tree) c.expr_node_measure.ensures
    (expr_depth-size tree) c.in_ok-measure.ensures.small in
    let kept = subst (λ (m : Measure). IsMeasure m (expr_size tree) (expr_depth tree))
    (sym c.in_ok-measure.ensures.same) exact in
    let measured = subst (λ (m : ExprArena). IsMeasure c.in_ok-measure.measure (expr_size (expr_over m.node_table node))
    (expr_depth (expr_over m.node_table node))) (sym c.self.view_is) kept in
    let is_there = subst (λ (m : ExprArena). ExprPartsAreThere m.node_table node) (sym c.self.view_is) c.requires in
    with_expr_sound c.self.inside (record { node = node; measure = c.in_ok-measure.measure }) c.push.new.self
    c.in_ok-push.ensures.items c.self.invariant is_there measured

pub returns-clause-id : goal.returns-clause-id
returns-clause-id c =
    let e = ap (λ (m : ExprArena). length m.node_table.exprs) c.self.view_is in
    omega (arith, e, count-exprs c.self.inside)

pub returns-clause-added : goal.returns-clause-added
returns-clause-added c =
    with_expr_view c.self.inside (record { node = c.args.node; measure = c.in_ok-measure.measure }) c.push.new.self
    c.in_ok-push.ensures.items c.self.invariant
    ∙ ap (λ (m : ExprArena). with_node_table m (with_expr m.node_table c.args.node)) c.self.view_is
