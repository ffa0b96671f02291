use Rattle.std.proofs.Common.{◌≡◌, ◌<◌, length, get_or, take, Some, ap, sym, ◌∙◌, subst, arith, rules}
use Rattle.std.proofs.lemmas.List.Elements.{All-pop}
use Rattle.pf_syntax.specs.Expr.{exprs_depth}
use mir.Val.{to_z, of_z}
use mir.Syntax.{w64}
use Rattle.pf_terms.specs.Value.{int}
use Rattle.pf_syntax.specs.Tree.{lit}
use Rattle.pf_syntax.specs.Expr as p
use Rattle.pf_syntax.specs.SyntaxTree.{expr_at}
use Rattle.pf_syntax.specs.SyntaxTreeOver.{expr_over, exprs_at, condition_over, branches_over, branch_depth}
use Rattle.pf_syntax.specs.Naming as w
use Rattle.pf_syntax.specs.Naming.{ExprIs}
use Rattle.pf_syntax.specs.declared.node.Operand.TheVariants as part
use Rattle.pf_rules.specs.Static.{names_of_module}
use Rattle.pf_lower.specs.Bound.{bound_after, all_bound_after}
use Rattle.pf_lower.specs.Built.{Lowers, ElementMeans, ExprsMean, BodyMeans}
use Rattle.pf_lower.specs.Bodies.{ElementRepresents}
use Rattle.pf_lower.proofs.Growing.{by_ok, expr_put}
use Rattle.pf_lower.proofs.Exprs_mean.{expr_here, parentheses_lowers, two_mean, list_on_put, case_put, next_expr}
use Rattle.pf_lower.proofs.Exprs_mean.{EachExpr, each_expr_on, exprs_done, expr_shallow}
use Rattle.pf_lower.proofs.Bodies_mean.{plain_lowers, match_lowers, next_element, EachElement, each_element_on}
use Rattle.pf_lower.proofs.Bodies_mean.{elements_done, each_is_there, no_body, body_done, elements_are_there_on}
use Rattle.pf_lower.proofs.Bodies_mean.{next_tests}
use Rattle.pf_lower.proofs.Bodies_mean.{EachTests, each_tests_on, guard_done, unguarded_done, branch_done, next_branch}
use Rattle.pf_lower.proofs.Bodies_mean.{EachBranch, each_branch_on, branches_done, tests_shallow, branch_shallow}
use Rattle.pf_lower.proofs.Bodies_mean.{no_items}
use Rattle.pf_lower.proofs.Threads.{step, step_at, SoFar}
use Rattle.pf_lower.proofs.expressions.+expr.Goals as goal

pub expression-returns-in-None : goal.expression-returns-in-None
expression-returns-in-None t c =
    expr_here c.args.syntax.now.functions c.args.module.now c.args.slots.now _ _ part.Nil (sym c.in-None.ensures.found)
    tt (λ g h f k. w.list g _ _ (w.no_more g))

pub expression-returns-in-Integer : goal.expression-returns-in-Integer
expression-returns-in-Integer t c =
    let same : to_z w64 (of_z w64 c.in-Integer.n) ≡ c.in-Integer.n = search rules in
    expr_here c.args.syntax.now.functions c.args.module.now c.args.slots.now _ _ (part.Int _)
    (ap (expr_over c.args.syntax.now.node_table) (sym c.in-Integer.is) ∙ c.in-Some.ensures.found) tt
    (λ g h f k. subst (λ z. ExprIs (names_of_module c.args.module.now.atoms c.args.syntax.now.functions) g
    (p.integer c.in-Integer.n) (lit (int z))) (sym same) (w.integer g c.in-Integer.n))

pub expression-returns-in-Atom : goal.expression-returns-in-Atom
expression-returns-in-Atom t c =
    expr_here c.args.syntax.now.functions c.args.module.now c.args.slots.now _ _ (part.Atom c.in-Atom.atom)
    (ap (expr_over c.args.syntax.now.node_table) (sym c.in-Atom.is) ∙ c.in-Some.ensures.found) tt
    (λ g h f k. w.atom g c.in-Atom.atom.0)

pub expression-returns-in-Parentheses : goal.expression-returns-in-Parentheses
expression-returns-in-Parentheses t c =
    by_ok _ _ _ c.expression.ensures
    (λ x h. parentheses_lowers c.args.syntax.now.functions _ _ _ _ _ _ x
    (ap (expr_over c.args.syntax.now.node_table) (sym c.in-Parentheses.is) ∙ c.in-Some.ensures.found) h)

pub sequence-returns-in_ok-parts-in-Tuple : goal.sequence-returns-in_ok-parts-in-Tuple
sequence-returns-in_ok-parts-in-Tuple t c =
    let d = c.in_ok-parts-in-Tuple.ensures in
    by_ok _ _ _ c.put_node.ensures
    (λ x h. expr_put c.args.syntax.now.functions _ _ _ _ _ _ _ _ x
    (ap (λ l. p.tuple (exprs_at c.args.syntax.now.node_table l)) c.as_slice.ensures.value
    ∙ ap (expr_over c.args.syntax.now.node_table) (sym c.in-Tuple.is)) d.bound_is d.grown
    (λ g e f k. w.tuple g _ _ (d.answer.means g e f k)) h)

pub sequence-returns-in_ok-parts-in-List : goal.sequence-returns-in_ok-parts-in-List
sequence-returns-in_ok-parts-in-List t c =
    let d = c.in_ok-parts-in-List.ensures in
    by_ok _ _ _ c.put_list.ensures
    (λ x h. expr_put c.args.syntax.now.functions _ _ _ _ _ _ _ _ x
    (ap (λ l. p.list (exprs_at c.args.syntax.now.node_table l)) c.as_slice-in-List.ensures.value
    ∙ ap (expr_over c.args.syntax.now.node_table) (sym c.in-List.is)) d.bound_is d.grown
    (λ g e f k. w.list g _ _ (d.answer.means g e f k)) h)

pub sequence-returns-in_ok-rest-in-ListOn : goal.sequence-returns-in_ok-rest-in-ListOn
sequence-returns-in_ok-rest-in-ListOn t c =
    by_ok _ _ _ c.put_list-in-ListOn.ensures
    (λ x h. list_on_put c.args.syntax.now.functions _ _ _ _ _ _ _ _ _ _ _ c.in_ok-rest-in-ListOn.rest x
    (ap (λ l. p.list_on (exprs_at c.args.syntax.now.node_table l)
    (expr_at c.args.syntax.now.node_table c.in-ListOn.tail.0)) c.as_slice-in-ListOn.ensures.value
    ∙ ap (expr_over c.args.syntax.now.node_table) (sym c.in-ListOn.is))
    c.in_ok-parts-in-ListOn.ensures c.in_ok-rest-in-ListOn.ensures h)

pub operation-returns-in_ok-operands-in-Binary : goal.operation-returns-in_ok-operands-in-Binary
operation-returns-in_ok-operands-in-Binary t c =
    let d = c.in_ok-operands-in-Binary.ensures in
    by_ok _ _ _ c.put_node-in-Binary.ensures
    (λ x h. expr_put c.args.syntax.now.functions _ _ _ _ _ _ _ _ x
    (ap (expr_over c.args.syntax.now.node_table) (sym c.in-Binary.is)) d.bound_is d.grown
    (λ g e f k. let two = two_mean c.args.syntax.now.functions _ _ _ _ _ _ d.answer g e f k in
    w.binary g _ _ _ _ _ two.0 two.1) h)

pub operation-returns-in_ok-operands-in-AndAlso : goal.operation-returns-in_ok-operands-in-AndAlso
operation-returns-in_ok-operands-in-AndAlso t c =
    let d = c.in_ok-operands-in-AndAlso.ensures in
    by_ok _ _ _ c.put_node-in-AndAlso.ensures
    (λ x h. expr_put c.args.syntax.now.functions _ _ _ _ _ _ _ _ x
    (ap (expr_over c.args.syntax.now.node_table) (sym c.in-AndAlso.is)) d.bound_is d.grown
    (λ g e f k. let two = two_mean c.args.syntax.now.functions _ _ _ _ _ _ d.answer g e f k in
    w.and_also g _ _ _ _ two.0 two.1) h)

pub operation-returns-in_ok-operands-in-OrElse : goal.operation-returns-in_ok-operands-in-OrElse
operation-returns-in_ok-operands-in-OrElse t c =
    let d = c.in_ok-operands-in-OrElse.ensures in
    by_ok _ _ _ c.put_node-in-OrElse.ensures
    (λ x h. expr_put c.args.syntax.now.functions _ _ _ _ _ _ _ _ x
    (ap (expr_over c.args.syntax.now.node_table) (sym c.in-OrElse.is)) d.bound_is d.grown
    (λ g e f k. let two = two_mean c.args.syntax.now.functions _ _ _ _ _ _ d.answer g e f k in
    w.or_else g _ _ _ _ two.0 two.1) h)

pub operation-returns-in_ok-operands-in-Send : goal.operation-returns-in_ok-operands-in-Send
operation-returns-in_ok-operands-in-Send t c =
    let d = c.in_ok-operands-in-Send.ensures in
    by_ok _ _ _ c.put_node-in-Send.ensures
    (λ x h. expr_put c.args.syntax.now.functions _ _ _ _ _ _ _ _ x
    (ap (expr_over c.args.syntax.now.node_table) (sym c.in-Send.is)) d.bound_is d.grown
    (λ g e f k. let two = two_mean c.args.syntax.now.functions _ _ _ _ _ _ d.answer g e f k in
    w.send g _ _ _ _ two.0 two.1) h)

pub operation-returns-in_ok-inner-in-Negate : goal.operation-returns-in_ok-inner-in-Negate
operation-returns-in_ok-inner-in-Negate t c =
    let d = c.in_ok-inner-in-Negate.ensures in
    by_ok _ _ _ c.put_node.ensures
    (λ x h. expr_put c.args.syntax.now.functions _ _ _ _ _ _ _ _ x
    (ap (expr_over c.args.syntax.now.node_table) (sym c.in-Negate.is)) d.bound_is d.grown
    (λ g e f k. w.negate g _ _ (d.answer.means g e f k)) h)

pub construct-returns-in_ok-clauses-in-Case : goal.construct-returns-in_ok-clauses-in-Case
construct-returns-in_ok-clauses-in-Case t c =
    by_ok _ _ _ c.put_node.ensures
    (λ x h. case_put c.args.syntax.now.functions _ _ _ _ _ _ _ _ _ _ c.in_ok-value-in-Case.value x _
    (ap (λ l. p.case (expr_at c.args.syntax.now.node_table c.in-Case.a.0)
    (branches_over c.args.syntax.now.node_table l)) c.as_slice.ensures.value
    ∙ ap (expr_over c.args.syntax.now.node_table) (sym c.in-Case.is))
    c.in_ok-value-in-Case.ensures c.in_ok-clauses-in-Case.ensures h)

pub construct-returns-in_ok-clauses-in-If : goal.construct-returns-in_ok-clauses-in-If
construct-returns-in_ok-clauses-in-If t c =
    let d = c.in_ok-clauses-in-If.ensures in
    by_ok _ _ _ c.put_node-in-If.ensures
    (λ x h. expr_put c.args.syntax.now.functions _ _ _ _ _ _ _ _ x
    (ap (λ l. p.if_expression (branches_over c.args.syntax.now.node_table l)) c.as_slice-in-If.ensures.value
    ∙ ap (expr_over c.args.syntax.now.node_table) (sym c.in-If.is)) d.bound_is d.grown
    (λ g e f k. w.if_expression g _ _ (d.answer.means g e f k)) h)

pub construct-returns-in_ok-clauses-in-Receive : goal.construct-returns-in_ok-clauses-in-Receive
construct-returns-in_ok-clauses-in-Receive t c =
    let d = c.in_ok-clauses-in-Receive.ensures in
    by_ok _ _ _ c.put_node-in-Receive.ensures
    (λ x h. expr_put c.args.syntax.now.functions _ _ _ _ _ _ _ _ x
    (ap (λ l. p.receive (branches_over c.args.syntax.now.node_table l)) c.as_slice-in-Receive.ensures.value
    ∙ ap (expr_over c.args.syntax.now.node_table) (sym c.in-Receive.is)) d.bound_is d.grown
    (λ g e f k. w.receive g _ _ (d.answer.means g e f k)) h)

pub expressions-expression-requires : goal.expressions-expression-requires
expressions-expression-requires t c =
    let h = expr_shallow c.args.syntax.now.node_table c.args.ids.now c.loop-id.id-index (record { 0 = 0 })
    (omega arith) in
    (omega (arith, h, c.decreases), c.requires)

pub expressions-loop-id-preserved : goal.expressions-loop-id-preserved
expressions-loop-id-preserved t c =
    let fs = c.args.syntax.now.functions in
    let b = c.args.syntax.now.node_table in
    subst (SoFar (next_expr fs b) (EachExpr fs b) _ _ _ _ _) (sym c.in_ok-push.ensures.items)
    (step (next_expr fs b) (EachExpr fs b) (each_expr_on fs b) c.args.module.now c.loop-id.module _ c.args.slots.now
    c.loop-id.slots _ c.args.ids.now c.loop-id.id-index
    c.loop-id.parts.items (record { 0 = 0 }) c.in_ok-part.part (omega arith) c.loop-id.invariant c.in_ok-part.ensures)

pub expressions-returns : goal.expressions-returns
expressions-returns t c =
    exprs_done c.args.syntax.now.functions c.args.syntax.now.node_table c.args.module.now c.loop-id.module
    c.args.slots.now c.loop-id.slots c.args.ids.now c.loop-id.id-index c.loop-id.parts.items (omega arith)
    c.loop-id.invariant

pub element-returns-in_ok-value-in-None : goal.element-returns-in_ok-value-in-None
element-returns-in_ok-value-in-None t c =
    let fs = c.args.syntax.now.functions in
    let e = expr_at c.args.syntax.now.node_table c.args.id.0 in
    subst (λ l. Lowers c.args.module.now c.expression.new.module c.expression.new.slots (bound_after c.args.slots.now e)
    (λ u. ElementMeans fs u c.args.slots.now e l c.in_ok-value-in-None.value)) (sym c.new.ensures.items)
    (plain_lowers fs _ _ _ _ _ c.in_ok-value-in-None.value c.in-None.ensures.none c.in_ok-value-in-None.ensures)

pub element-returns-in_ok-push-in-Some : goal.element-returns-in_ok-push-in-Some
element-returns-in_ok-push-in-Some t c =
    let fs = c.args.syntax.now.functions in
    let e = expr_at c.args.syntax.now.node_table c.args.id.0 in
    subst (λ l. Lowers c.args.module.now c.pattern.new.module c.pattern.new.slots (bound_after c.args.slots.now e)
    (λ u. ElementMeans fs u c.args.slots.now e l c.in_ok-inner-in-Some.inner.value))
    (sym c.in_ok-push-in-Some.ensures.items)
    (match_lowers fs c.args.module.now c.element.new.module c.pattern.new.module c.element.new.slots c.pattern.new.slots
    c.args.slots.now _ _ e c.in_ok-inner-in-Some.inner.patterns.items c.in_ok-outer-in-Some.outer
    c.in_ok-inner-in-Some.inner.value c.in-Some.ensures.some c.in_ok-inner-in-Some.ensures
    c.in_ok-outer-in-Some.ensures)

pub elements-element-requires : goal.elements-element-requires
elements-element-requires t c =
    let h = expr_shallow c.args.syntax.now.node_table c.args.ids.now c.loop-id.id-index (record { 0 = 0 })
    (omega arith) in
    (omega (arith, h, c.decreases), c.requires)

pub elements-loop-id-preserved : goal.elements-loop-id-preserved
elements-loop-id-preserved t c =
    let fs = c.args.syntax.now.functions in
    let b = c.args.syntax.now.node_table in
    subst (SoFar (next_element fs b) (EachElement fs b) _ _ _ _ _) (sym c.in_ok-push.ensures.items)
    (step (next_element fs b) (EachElement fs b) (each_element_on fs b) c.args.module.now c.loop-id.module _
    c.args.slots.now c.loop-id.slots _ c.args.ids.now c.loop-id.id-index
    c.loop-id.found.items (record { 0 = 0 }) c.in_ok-one.one (omega arith) c.loop-id.invariant c.in_ok-one.ensures)

pub elements-returns : goal.elements-returns
elements-returns t c =
    elements_done c.args.syntax.now.functions c.args.syntax.now.node_table c.args.module.now c.loop-id.module
    c.args.slots.now c.loop-id.slots c.args.ids.now c.loop-id.id-index c.loop-id.found.items (omega arith)
    c.loop-id.invariant

pub body-put_last-requires : goal.body-put_last-requires
body-put_last-requires t c =
    let u = c.elements.new.module in
    (All-pop (ElementRepresents u.tables) c.in_ok-front.front.items c.pop.new.self.items (Some c.in-Some.last)
    c.in-Some.ensures.items
    (each_is_there c.args.syntax.now.functions c.args.syntax.now.node_table u c.args.slots.now c.args.ids.now
    c.in_ok-front.front.items c.in_ok-front.ensures.answer)).1

pub body-put_binds-requires-clause-elements_are_there : goal.body-put_binds-requires-clause-elements_are_there
body-put_binds-requires-clause-elements_are_there t c =
    let u = c.elements.new.module in
    elements_are_there_on u.tables c.put_last.new.module.tables c.in_ok-end-in-Some.ensures.grown.tables
    c.pop.new.self.items
    (All-pop (ElementRepresents u.tables) c.in_ok-front.front.items c.pop.new.self.items (Some c.in-Some.last)
    c.in-Some.ensures.items
    (each_is_there c.args.syntax.now.functions c.args.syntax.now.node_table u c.args.slots.now c.args.ids.now
    c.in_ok-front.front.items c.in_ok-front.ensures.answer)).0

pub body-returns-in-None : goal.body-returns-in-None
body-returns-in-None t c =
    let empty : length c.in_ok-front.front.items ≡ 0 = search rules in
    no_body c.args.syntax.now.functions c.args.syntax.now.node_table c.args.module.now c.elements.new.module
    c.elements.new.slots _ c.args.slots.now c.args.ids.now c.in_ok-front.front.items part.Nil tt
    (no_items c.in_ok-front.front.items empty) c.in_ok-front.ensures

pub body-returns-in_ok-end-in-Some : goal.body-returns-in_ok-end-in-Some
body-returns-in_ok-end-in-Some t c =
    by_ok _ _ _ c.put_binds.ensures
    (λ x h. body_done c.args.syntax.now.functions c.args.syntax.now.node_table _ _ _ _ _ _ c.args.slots.now
    c.args.ids.now c.in_ok-front.front.items c.pop.new.self.items c.in-Some.last c.in_ok-end-in-Some.end x
    c.in-Some.ensures.items
    c.in_ok-front.ensures c.in_ok-end-in-Some.ensures h)

pub guard-expressions-requires : goal.guard-expressions-requires
guard-expressions-requires t c =
    let value = c.deref-one-items.ensures.value in
    let gs = c.args.condition.now.alternatives.items in
    let lt : c.loop-one.one-index < length gs = omega (arith, ap length value) in
    let at : c.one-item.result ≡ get_or gs c.loop-one.one-index c.one-item.result =
    c.one-item.is ∙ ap (λ l. get_or l c.loop-one.one-index c.one-item.result) value in
    let h = tests_shallow c.args.syntax.now.node_table gs c.loop-one.one-index c.one-item.result lt in
    let e = ap (λ g. exprs_depth (exprs_at c.args.syntax.now.node_table g.tests.items)) at in
    let f = ap (λ l. exprs_depth (exprs_at c.args.syntax.now.node_table l)) c.as_slice.ensures.value in
    (omega (arith, h, e, f, c.decreases), c.requires)

pub guard-loop-one-preserved : goal.guard-loop-one-preserved
guard-loop-one-preserved t c =
    let fs = c.args.syntax.now.functions in
    let b = c.args.syntax.now.node_table in
    let value = c.deref-one-items.ensures.value in
    let gs = c.args.condition.now.alternatives.items in
    let lt : c.loop-one.one-index < length gs = omega (arith, ap length value) in
    let at : c.one-item.result ≡ get_or gs c.loop-one.one-index c.one-item.result =
    c.one-item.is ∙ ap (λ l. get_or l c.loop-one.one-index c.one-item.result) value in
    subst (SoFar (next_tests fs b) (EachTests fs b) _ _ _ _ _) (sym c.in_ok-push.ensures.items)
    (step_at (next_tests fs b) (EachTests fs b) (each_tests_on fs b) c.args.module.now c.loop-one.module
    c.expressions.new.module c.args.slots.now c.loop-one.slots c.expressions.new.slots gs c.loop-one.one-index
    c.loop-one.alternatives.items c.one-item.result (record { tests = c.in_ok-tests.tests }) lt at c.loop-one.invariant
    (subst (λ l. Lowers c.loop-one.module c.expressions.new.module c.expressions.new.slots c.loop-one.slots
    (λ u. ExprsMean fs u c.loop-one.slots (exprs_at b l) c.in_ok-tests.tests.items))
    c.as_slice.ensures.value c.in_ok-tests.ensures))

pub guard-returns-then-is_unguarded : goal.guard-returns-then-is_unguarded
guard-returns-then-is_unguarded t c =
    let b = c.args.syntax.now.node_table in
    unguarded_done c.args.syntax.now.functions b c.args.module.now c.args.slots.now
    (condition_over b c.args.condition.now) (record { alternatives = c.new-alternatives.result })
    c.new-alternatives.ensures.items ((c.is_unguarded.ensures b).0 c.if-is_unguarded.true)

pub guard-returns : goal.guard-returns
guard-returns t c =
    guard_done c.args.syntax.now.functions c.args.syntax.now.node_table c.args.module.now c.loop-one.module
    c.args.slots.now c.loop-one.slots c.args.condition.now.alternatives.items c.loop-one.one-index
    (record { alternatives = c.loop-one.alternatives }) (omega (arith, ap length c.deref-one-items.ensures.value))
    c.loop-one.invariant

pub branch-returns : goal.branch-returns
branch-returns t c =
    let fs = c.args.syntax.now.functions in
    let b = c.args.syntax.now.node_table in
    branch_done fs b c.args.module.now c.pattern.new.module c.guard.new.module c.body.new.module c.pattern.new.slots
    c.guard.new.slots c.body.new.slots c.truncate.new.self c.args.slots.now c.args.arm.now
    c.in_ok-asked.asked c.in_ok-guard.guard c.in_ok-body.body c.in_ok-asked.ensures c.in_ok-guard.ensures
    (subst (λ l. Lowers c.guard.new.module c.body.new.module c.body.new.slots
    (all_bound_after c.guard.new.slots (exprs_at b l))
    (λ u. BodyMeans fs u c.guard.new.slots (exprs_at b l) c.in_ok-body.body))
    c.as_slice.ensures.value c.in_ok-body.ensures)
    (c.truncate.ensures ∙ ap (λ n. take n c.body.new.slots) c.len-bound.ensures)

pub branches-branch-alloc-requires : goal.branches-branch-alloc-requires
branches-branch-alloc-requires t c =
    let h = branch_shallow c.args.syntax.now.node_table c.args.arms.now c.loop-arm.arm-index c.arm-item.result
    (omega arith) in
    let e = ap (branch_depth c.args.syntax.now.node_table) c.arm-item.is in
    (omega (arith, h, e, c.decreases), c.requires)

pub branches-loop-arm-preserved : goal.branches-loop-arm-preserved
branches-loop-arm-preserved t c =
    let fs = c.args.syntax.now.functions in
    let b = c.args.syntax.now.node_table in
    subst (SoFar (next_branch fs b) (EachBranch fs b) _ _ _ _ _) (sym c.in_ok-push.ensures.items)
    (step_at (next_branch fs b) (EachBranch fs b) (each_branch_on fs b) c.args.module.now c.loop-arm.module _
    c.args.slots.now c.loop-arm.slots _ c.args.arms.now c.loop-arm.arm-index
    c.loop-arm.clauses.items c.arm-item.result c.in_ok-clause.clause (omega arith) c.arm-item.is c.loop-arm.invariant
    c.in_ok-clause.ensures)

pub branches-returns : goal.branches-returns
branches-returns t c =
    branches_done c.args.syntax.now.functions c.args.syntax.now.node_table c.args.module.now c.loop-arm.module
    c.args.slots.now c.loop-arm.slots c.args.arms.now c.loop-arm.arm-index c.loop-arm.clauses.items (omega arith)
    c.loop-arm.invariant
