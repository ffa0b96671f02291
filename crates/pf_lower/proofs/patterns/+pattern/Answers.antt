use Rattle.std.proofs.Common.{◌≡◌, refl, ap, sym, ◌∙◌, subst, arith, rules}
use mir.Val.{to_z, of_z}
use mir.Syntax.{w64}
use Rattle.pf_terms.specs.Value.{int}
use Rattle.pf_syntax.specs.Pattern.{known}
use Rattle.pf_syntax.specs.ExprPattern as s
use Rattle.pf_syntax.specs.SyntaxTree.{expr_pattern_at}
use Rattle.pf_syntax.specs.SyntaxTreeOver.{expr_pattern_over, expr_patterns_at}
use Rattle.pf_syntax.specs.Naming.{ExprPatternIs}
use Rattle.pf_rules.specs.Static.{names_of_module}
use Rattle.pf_syntax.specs.Naming as w
use Rattle.pf_lower.proofs.Growing.{by_ok, expr_pattern_put, grown_itself}
use Rattle.pf_lower.proofs.ExprPatterns_mean.{next_expr_pattern, EachExprPattern, each_expr_pattern_on}
use Rattle.pf_lower.proofs.ExprPatterns_mean.{expr_patterns_done, expr_pattern_shallow, tuple_expr_pattern}
use Rattle.pf_lower.proofs.ExprPatterns_mean.{list_expr_pattern, list_on_expr_pattern}
use Rattle.pf_lower.proofs.Threads.{step, SoFar}
use Rattle.pf_lower.proofs.patterns.+pattern.Goals as goal

pub pattern-returns-in-None : goal.pattern-returns-in-None
pattern-returns-in-None t c =
    let m = c.args.module.now in
    by_ok _ _ _ c.put_pattern.ensures
    (λ p h. expr_pattern_put c.args.syntax.now.functions m m _ _ c.args.slots.now _ _ _ p (sym c.in-None.ensures.found)
    refl (grown_itself m) (λ g e f k. w.anything g) h)

pub pattern-returns-in-Integer : goal.pattern-returns-in-Integer
pattern-returns-in-Integer t c =
    let m = c.args.module.now in
    let same : to_z w64 (of_z w64 c.in-Integer.n) ≡ c.in-Integer.n = search rules in
    by_ok _ _ _ c.put_pattern-in-Integer.ensures
    (λ p h. expr_pattern_put c.args.syntax.now.functions m m _ _ c.args.slots.now _ _ _ p
    (ap (expr_pattern_over c.args.syntax.now.node_table) (sym c.in-Integer.is) ∙ c.in-Some.ensures.found)
    refl (grown_itself m)
    (λ g e f k. subst (λ z. ExprPatternIs (names_of_module m.atoms c.args.syntax.now.functions) g
    (s.integer c.in-Integer.n) (known (int z))) (sym same) (w.integer g c.in-Integer.n)) h)

pub pattern-returns-in-Atom : goal.pattern-returns-in-Atom
pattern-returns-in-Atom t c =
    let m = c.args.module.now in
    by_ok _ _ _ c.put_pattern-in-Atom.ensures
    (λ p h. expr_pattern_put c.args.syntax.now.functions m m _ _ c.args.slots.now _ _ _ p
    (ap (expr_pattern_over c.args.syntax.now.node_table) (sym c.in-Atom.is) ∙ c.in-Some.ensures.found)
    refl (grown_itself m) (λ g e f k. w.atom g c.in-Atom.atom.0) h)

pub pattern-returns-in-Anything : goal.pattern-returns-in-Anything
pattern-returns-in-Anything t c =
    let m = c.args.module.now in
    by_ok _ _ _ c.put_pattern-in-Anything.ensures
    (λ p h. expr_pattern_put c.args.syntax.now.functions m m _ _ c.args.slots.now _ _ _ p
    (ap (expr_pattern_over c.args.syntax.now.node_table) (sym c.in-Anything.is) ∙ c.in-Some.ensures.found)
    refl (grown_itself m) (λ g e f k. w.anything g) h)

pub pattern-returns-in_ok-parts-in-Tuple : goal.pattern-returns-in_ok-parts-in-Tuple
pattern-returns-in_ok-parts-in-Tuple t c =
    by_ok _ _ _ c.put_pattern-in-Tuple.ensures
    (λ p h. tuple_expr_pattern c.args.syntax.now.functions _ _ _ c.args.module.now _ _ _ _ p
    c.in_ok-parts-in-Tuple.ensures _
    (ap (λ l. s.tuple (expr_patterns_at c.args.syntax.now.node_table l)) c.as_slice-in-Tuple.ensures.value
    ∙ ap (expr_pattern_over c.args.syntax.now.node_table) (sym c.in-Tuple.is) ∙ c.in-Some.ensures.found) h)

pub pattern-returns-in_ok-nil-in-List : goal.pattern-returns-in_ok-nil-in-List
pattern-returns-in_ok-nil-in-List t c =
    by_ok _ _ _ c.put_list_pattern.ensures
    (λ p h. list_expr_pattern c.args.syntax.now.functions _ _ _ _ _ _ _ _ p c.in_ok-parts-in-List.ensures _
    c.in_ok-nil-in-List.nil
    (ap (λ l. s.list (expr_patterns_at c.args.syntax.now.node_table l)) c.as_slice-in-List.ensures.value
    ∙ ap (expr_pattern_over c.args.syntax.now.node_table) (sym c.in-List.is) ∙ c.in-Some.ensures.found)
    c.in_ok-nil-in-List.ensures h)

pub pattern-returns-in_ok-rest-in-ListOn : goal.pattern-returns-in_ok-rest-in-ListOn
pattern-returns-in_ok-rest-in-ListOn t c =
    by_ok _ _ _ c.put_list_pattern-in-ListOn.ensures
    (λ p h. list_on_expr_pattern c.args.syntax.now.functions _ _ _ _ _ _ _ _ p c.in_ok-parts-in-ListOn.ensures _ _ _
    c.in_ok-rest-in-ListOn.rest
    (ap (λ l. s.list_on (expr_patterns_at c.args.syntax.now.node_table l)
    (expr_pattern_at c.args.syntax.now.node_table c.in-ListOn.tail.0)) c.as_slice-in-ListOn.ensures.value
    ∙ ap (expr_pattern_over c.args.syntax.now.node_table) (sym c.in-ListOn.is) ∙ c.in-Some.ensures.found)
    c.in_ok-rest-in-ListOn.ensures h)

pub patterns-pattern-requires : goal.patterns-pattern-requires
patterns-pattern-requires t c =
    let h = expr_pattern_shallow c.args.syntax.now.node_table c.args.ids.now c.loop-id.id-index (record { 0 = 0 })
    (omega arith) in
    (omega (arith, h, c.decreases), tt)

pub patterns-loop-id-preserved : goal.patterns-loop-id-preserved
patterns-loop-id-preserved t c =
    let fs = c.args.syntax.now.functions in
    let b = c.args.syntax.now.node_table in
    subst (SoFar (next_expr_pattern fs b) (EachExprPattern fs b) _ _ _ _ _) (sym c.in_ok-push.ensures.items)
    (step (next_expr_pattern fs b) (EachExprPattern fs b) (each_expr_pattern_on fs b) c.args.module.now c.loop-id.module
    _ c.args.slots.now c.loop-id.slots _ c.args.ids.now c.loop-id.id-index
    c.loop-id.parts.items (record { 0 = 0 }) c.in_ok-part.part (omega arith) c.loop-id.invariant c.in_ok-part.ensures)

pub patterns-returns : goal.patterns-returns
patterns-returns t c =
    expr_patterns_done c.args.syntax.now.functions c.args.syntax.now.node_table c.args.module.now c.loop-id.module
    c.args.slots.now c.loop-id.slots c.args.ids.now c.loop-id.id-index
    c.loop-id.parts.items (omega arith) c.loop-id.invariant
