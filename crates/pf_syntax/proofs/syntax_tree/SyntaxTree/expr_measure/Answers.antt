use Rattle.std.proofs.Common.{◌≡◌, ◌∙◌, List, refl, ap, sym, subst, arith}
use Rattle.std.specs.Prelude.{slice_get, Some, None}
use Rattle.std.proofs.lemmas.List.{get_or_past}
use Rattle.pf_syntax.specs.Expr.{list, no_exprs, expr_size, expr_depth}
use Rattle.pf_syntax.specs.Measure.{IsMeasure}
use Rattle.pf_syntax.specs.SyntaxTree.{ExprArena, expr_at}
use Rattle.pf_syntax.specs.SyntaxTreeView.{node_table_of}
use Rattle.pf_syntax.proofs.Formed.{get_none}
use Rattle.pf_syntax.proofs.NodeTableFolds.{count-exprs, expr_of_entry}
use Rattle.pf_syntax.proofs.syntax_tree.SyntaxTree.expr_measure.Goals as goal

pub returns-in-Some : goal.returns-in-Some
returns-in-Some c =
    let a = c.self.inside in
    let i = c.args.id.0 in
    let e = c.in-Some.expr.now in
    let at : slice_get a.exprs.items i ≡ Some e = ap (λ (es : List _). slice_get es i) (sym c.deref.ensures.value)
    ∙ c.in-Some.ensures in
    let formed = expr_of_entry a c.self.invariant i e at in
    subst (λ (m : ExprArena). IsMeasure e.measure (expr_size (expr_at m.node_table i))
    (expr_depth (expr_at m.node_table i))) c.self.view_is formed.measured

pub returns-in-None : goal.returns-in-None
returns-in-None c =
    let a = c.self.inside in
    let i = c.args.id.0 in
    let at : slice_get a.exprs.items i ≡ None = ap (λ (es : List _). slice_get es i) (sym c.deref.ensures.value)
    ∙ c.in-None.ensures in
    let past = get_none a.exprs.items i at in
    let n = count-exprs a in
    let leaf : expr_at (node_table_of a) i ≡ list no_exprs = get_or_past (node_table_of a).exprs i (list no_exprs)
    (omega arith) in
    let there = ap (λ (m : ExprArena). expr_at m.node_table i) (sym c.self.view_is) ∙ leaf in
    rw there (refl, refl)
