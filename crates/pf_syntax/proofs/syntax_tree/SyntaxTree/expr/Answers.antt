use Rattle.std.proofs.Common.{◌≡◌, ◌∙◌, List, length, ap, sym, subst, arith}
use Rattle.std.specs.Prelude.{slice_get, Some, None}
use Rattle.std.proofs.lemmas.List.{get_or_past}
use Rattle.pf_syntax.specs.Expr.{list, no_exprs}
use Rattle.pf_syntax.specs.SyntaxTree.{ExprArena, expr_at}
use Rattle.pf_syntax.specs.SyntaxTreeOver.{expr_over}
use Rattle.pf_syntax.specs.SyntaxTreeView.{node_table_of}
use Rattle.pf_syntax.proofs.Formed.{get_none}
use Rattle.pf_syntax.proofs.NodeTableFolds.{count-exprs, expr_of_entry}
use Rattle.pf_syntax.proofs.syntax_tree.SyntaxTree.expr.Goals as goal

pub returns-in-Some-clause-found : goal.returns-in-Some-clause-found
returns-in-Some-clause-found c =
    let a = c.self.inside in
    let i = c.args.id.0 in
    let e = c.in-Some.expr.now in
    let at : slice_get a.exprs.items i ≡ Some e = ap (λ (es : List _). slice_get es i) (sym c.deref.ensures.value)
    ∙ c.in-Some.ensures in
    let formed = expr_of_entry a c.self.invariant i e at in
    subst (λ (m : ExprArena). expr_over m.node_table e.node ≡ expr_at m.node_table i) c.self.view_is formed.over

pub returns-in-None-clause-found : goal.returns-in-None-clause-found
returns-in-None-clause-found c =
    let a = c.self.inside in
    let i = c.args.id.0 in
    let at : slice_get a.exprs.items i ≡ None = ap (λ (es : List _). slice_get es i) (sym c.deref.ensures.value)
    ∙ c.in-None.ensures in
    let past = get_none a.exprs.items i at in
    let n = count-exprs a in
    subst (λ (m : ExprArena). expr_at m.node_table i ≡ list no_exprs) c.self.view_is
    (get_or_past (node_table_of a).exprs i (list no_exprs) (omega arith))

pub returns-in-None-clause-absent : goal.returns-in-None-clause-absent
returns-in-None-clause-absent c =
    let a = c.self.inside in
    let i = c.args.id.0 in
    let at : slice_get a.exprs.items i ≡ None = ap (λ (es : List _). slice_get es i) (sym c.deref.ensures.value)
    ∙ c.in-None.ensures in
    let past = get_none a.exprs.items i at in
    let n = count-exprs a in
    let e = ap (λ (m : ExprArena). length m.node_table.exprs) c.self.view_is in
    omega arith
