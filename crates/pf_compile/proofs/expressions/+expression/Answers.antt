use Rattle.std.proofs.Common.{◌≡◌, length, get_or, sym, ap, ◌∙◌, subst, arith, rules, refl}
use Rattle.std.specs.Prelude.{if◌then◌else◌}
use Rattle.pf_syntax.specs.Forms.{is_pure}
use Rattle.pf_syntax.specs.Module.{pattern_at}
use Rattle.pf_syntax.specs.Tree as tree
use Rattle.pf_syntax.specs.Over.{clauses_over, guard_over, part_over, parts_over, patterns_at, tree_over}
use Rattle.pf_code.specs.Sound.{Takes}
use Rattle.pf_code.specs.declared.instruction.Operation.TheVariants as ops
use Rattle.pf_compile_patterns.specs.Maker.{code_of}
use Rattle.pf_compile_patterns.specs.Growth.{Made}
use Rattle.pf_compile_patterns.specs.Tests.{Lays}
use Rattle.pf_compile_patterns.specs.Planned.{fit_at, AreBelow, Planned}
use Rattle.pf_compile_patterns.specs.Guarded.{holds_at, AsksBelow}
use Rattle.pf_compile_patterns.specs.Scopes.{model_in, slots_in, tables_in}
use Rattle.pf_compile.specs.Evaluated.{Binds, Calls, Evaluates, Picks}
use Rattle.pf_compile_patterns.specs.declared.scope.Scope.{Scope}
use Rattle.pf_compile_patterns.proofs.Grown.{by_ok, extends_itself}
use Rattle.pf_compile_patterns.proofs.Dependent.{below_more}
use Rattle.pf_compile_patterns.proofs.Guarded.{exits_to}
use Rattle.pf_compile.proofs.Evaluated.{operates, given_value, raised_slot}
use Rattle.pf_compile.proofs.Evaluated.{evaluates_tuple, evaluates_cons, evaluates_op, evaluates_neg, evaluates_send}
use Rattle.pf_compile.proofs.Evaluated.{evaluates_builtin}
use Rattle.pf_compile.proofs.Clauses.{inner_target, Begun}
use Rattle.pf_compile.proofs.Parts.{evaluates_decided, evaluates_match, evaluates_bind, evaluates_case, evaluates_if}
use Rattle.pf_compile.proofs.Parts.{evaluates_case_of, variable_below}
use Rattle.pf_compile.proofs.Parts.{evaluates_call, evaluates_receive, evaluates_undefined}
use Rattle.pf_compile.specs.Scopes.{register_of}
use Rattle.pf_compile.specs.declared.target.Subject.TheVariants as subjects
use Rattle.pf_compile.proofs.Rows.{evaluates_none_at, evaluates_at, picks_at, binds_at, binds_none_at, rest}
use Rattle.pf_compile.proofs.Sizes.{weights_rest, tuple_weight, builtin_weight, call_weight, match_weight, bind_weight}
use Rattle.pf_compile.proofs.Sizes.{case_weight, if_weight, receive_weight}
use Rattle.pf_compile.proofs.Targets.{after_more, after_begun, target_on, target_above, target_first}
use Rattle.pf_compile.proofs.expressions.+expression.Goals as goal

pub row-row-requires : goal.row-row-requires
row-row-requires t c =
    let l = weights_rest (tables_in c.args.scope.now) c.args.parts.now (omega arith) in (
      omega (arith, l, c.decreases),
      (
        below_more c.args.free _ (slots_in c.args.scope.now) (omega arith) c.requires.slots_below,
        c.requires.next_there,
      ),
    )

pub row-returns-in-empty : goal.row-returns-in-empty
row-returns-in-empty t c =
    evaluates_none_at c.args.scope.now c.args.parts.now c.args.free c.args.next (code_of c.args.maker.now) (omega arith)
    c.requires.next_there

pub row-returns-in_ok-place-in-len1-up : goal.row-returns-in_ok-place-in-len1-up
row-returns-in_ok-place-in-len1-up t c =
    by_ok _ _ _ c.operand.ensures
    (λ pc h. evaluates_at c.args.scope.now c.args.parts.now _ c.args.free c.in_ok-after-in-len1-up.after c.args.next
    (code_of c.args.maker.now) (code_of c.row.new.maker) (code_of c.operand.new.maker) c.in_ok-place-in-len1-up.place pc
    (omega arith) c.requires.slots_below c.in_ok-after-in-len1-up.ensures c.in_ok-place-in-len1-up.ensures h)

pub operate-returns : goal.operate-returns
operate-returns t c =
    by_ok _ _ _ c.row.ensures
    (λ pc h. operates c.args.scope.now (parts_over (tables_in c.args.scope.now) c.args.parts.now)
    (length c.args.parts.now) c.args.operation c.args.to (code_of c.args.maker.now) (code_of c.land.new.maker)
    (code_of c.step.new.maker) (code_of c.row.new.maker) c.in_ok-end.end c.in_ok-next.next pc c.in_ok-end.ensures.place
    c.requires c.in_ok-end.ensures c.in_ok-next.ensures h)

pub decided-returns : goal.decided-returns
decided-returns t c =
    let b = tables_in c.args.scope.now in
    let last = code_of c.operand-2.new.maker in
    by_ok _ _ _ c.operand-2.ensures
    (λ pc h. evaluates_decided c.args.scope.now c.args.decides (part_over b c.args.left) (part_over b c.args.right)
    c.args.to (code_of c.args.maker.now) (code_of c.operand.new.maker) (code_of c.give_register.new.maker)
    (code_of c.raise_with.new.maker) (code_of c.truth.new.self) (code_of c.step.new.maker) last c.in_ok-other.other
    c.in_ok-landing.landing c.in_ok-raise.raise c.in_ok-truth.truth c.in_ok-step.step pc c.requires.0 c.requires.1
    c.in_ok-other.ensures c.in_ok-landing.ensures c.in_ok-raise.ensures c.in_ok-truth.ensures c.in_ok-step.ensures
    (subst (λ z. Made (code_of c.step.new.maker) last pc (Evaluates c.args.scope.now (part_over b c.args.left) z pc))
    c.at_free.ensures h))

pub matching-returns : goal.matching-returns
matching-returns t c =
    let b = tables_in c.args.scope.now in
    by_ok _ _ _ c.operand.ensures
    (λ pc h. evaluates_match c.args.scope.now (patterns_at b c.args.patterns.now) (part_over b c.args.part) c.args.to
    (code_of c.args.maker.now) (code_of c.match_register.new.maker) (code_of c.operand.new.maker) c.in_ok-next.next pc
    c.requires.0 c.requires.1 c.in_ok-next.ensures
    (subst (λ z. Made (code_of c.match_register.new.maker) (code_of c.operand.new.maker) pc
    (Evaluates c.args.scope.now (part_over b c.args.part) z pc)) c.at_free.ensures h))

pub binding-returns : goal.binding-returns
binding-returns t c =
    let b = tables_in c.args.scope.now in
    let ps = patterns_at b c.args.patterns.now in
    by_ok _ _ _ c.operand.ensures
    (λ pc h. evaluates_bind c.args.scope.now ps (part_over b c.args.part) (part_over b c.args.rest) c.args.to
    c.in_ok-register_after.field-0 (code_of c.args.maker.now) (code_of c.binds.new.maker) (code_of c.operand.new.maker)
    c.in_ok-next.next pc c.requires.0 c.requires.1
    (subst (λ z. Made (code_of c.args.maker.now) (code_of c.binds.new.maker) c.in_ok-next.next
    (Binds c.args.scope.now ps (part_over b c.args.rest) c.args.to.free z c.in_ok-next.next)) c.at_plan-above.ensures
    c.in_ok-next.ensures)
    (subst (λ z. Made (code_of c.binds.new.maker) (code_of c.operand.new.maker) pc
    (Evaluates c.args.scope.now (part_over b c.args.part) z pc)) c.at_free.ensures h))

pub case-returns : goal.case-returns
case-returns t c =
    let b = tables_in c.args.scope.now in
    let ks = clauses_over b c.args.clauses.now in
    by_ok _ _ _ c.operand.ensures
    (λ pc h. evaluates_case c.args.scope.now (part_over b c.args.part) ks c.args.to c.in_ok-register_after.field-0
    (code_of c.args.maker.now) (code_of c.raise_with.new.maker) (code_of c.pick.new.maker) (code_of c.step.new.maker)
    (code_of c.operand.new.maker) c.in_ok-raise.raise c.in_ok-first.first c.in_ok-step.step pc c.requires.0 c.requires.1
    c.in_ok-register_after.ensures c.in_ok-raise.ensures
    (subst (λ z. Made (code_of c.raise_with.new.maker) (code_of c.pick.new.maker) c.in_ok-first.first
    (Picks c.args.scope.now ks (subjects.Value c.args.to.free) z c.in_ok-raise.raise c.in_ok-first.first))
    c.at_plan-above.ensures c.in_ok-first.ensures) c.in_ok-step.ensures
    (subst (λ z. Made (code_of c.step.new.maker) (code_of c.operand.new.maker) pc
    (Evaluates c.args.scope.now (part_over b c.args.part) z pc)) c.at_free.ensures h))

pub choice-returns : goal.choice-returns
choice-returns t c =
    let b = tables_in c.args.scope.now in
    let ks = clauses_over b c.args.clauses.now in
    evaluates_if c.args.scope.now ks c.args.to c.in_ok-register_after.field-0 (code_of c.args.maker.now)
    (code_of c.raise.new.maker) (code_of c.pick.new.maker) (code_of c.load_value.new.self) (code_of c.step.new.maker)
    c.in_ok-raise.raise c.in_ok-first.first c.in_ok-load.load _ c.requires.0 c.requires.1 c.in_ok-register_after.ensures
    c.in_ok-raise.ensures
    (subst (λ z. Made (code_of c.raise.new.maker) (code_of c.pick.new.maker) c.in_ok-first.first
    (Picks c.args.scope.now ks (subjects.Value c.args.to.free) z c.in_ok-raise.raise c.in_ok-first.first))
    c.at_plan-above.ensures c.in_ok-first.ensures) c.in_ok-load.ensures c.in_ok-step.ensures

pub receive-returns : goal.receive-returns
receive-returns t c =
    let b = tables_in c.args.scope.now in
    let ks = clauses_over b c.args.clauses.now in
    evaluates_receive c.args.scope.now ks c.args.to c.in_ok-register_after.field-0 (code_of c.args.maker.now)
    (code_of c.pass.new.maker) (code_of c.pick.new.maker) (code_of c.wait.new.maker)
    c.in_ok-pass.pass c.in_ok-first.first _ c.requires.0 c.requires.1 c.in_ok-register_after.ensures
    c.in_ok-pass.ensures
    (subst (λ z. Made (code_of c.pass.new.maker) (code_of c.pick.new.maker) c.in_ok-first.first
    (Picks c.args.scope.now ks (subjects.Message c.args.to.free) z c.in_ok-pass.pass c.in_ok-first.first))
    c.at_plan-above.ensures c.in_ok-first.ensures) c.in_ok-wait.ensures

-- ---- operands

pub operand-returns-in_ok-give_value-in-None : goal.operand-returns-in_ok-give_value-in-None
operand-returns-in_ok-give_value-in-None t c =
    given_value c.args.scope.now (part_over (tables_in c.args.scope.now) c.args.part) c.args.to
    (code_of c.args.maker.now) (code_of c.give_value.new.maker) _ _
    (ap (part_over (tables_in c.args.scope.now)) c.in-Node.is ∙ c.in-None.ensures.found)
    c.in_ok-give_value-in-None.ensures

pub operand-returns-in_ok-step_to_raise-in-None-slot_at : goal.operand-returns-in_ok-step_to_raise-in-None-slot_at
operand-returns-in_ok-step_to_raise-in-None-slot_at t c =
    raised_slot c.args.scope.now (part_over (tables_in c.args.scope.now) c.args.part) c.args.to
    (code_of c.args.maker.now) (code_of c.step_to_raise.new.maker) _ c.in-Slot.index
    (ap (part_over (tables_in c.args.scope.now)) c.in-Slot.is) c.in-None-slot_at.ensures
    c.in_ok-step_to_raise-in-None-slot_at.ensures

pub operand-step_to_raise-requires : goal.operand-step_to_raise-requires
operand-step_to_raise-requires t c = after_begun (code_of c.args.maker.now) c.args.to.after c.requires.2

-- ---- nodes

pub node-operate-requires : goal.node-operate-requires
node-operate-requires t c =
    let b = tables_in c.args.scope.now in
    let ps = parts_over b c.as_slice.result.now in
    let e : tree_over b c.args.node.now ≡ tree.tuple ps =
    ap (tree_over b) c.in-Tuple.is ∙ ap (λ l. tree.tuple (parts_over b l)) (sym c.as_slice.ensures.value) in
    let l = tuple_weight (tree_over b c.args.node.now) ps e in
    (omega (arith, l, c.decreases), c.requires)

pub node-operate-requires-in-Builtin : goal.node-operate-requires-in-Builtin
node-operate-requires-in-Builtin t c =
    let b = tables_in c.args.scope.now in
    let f = c.in-Builtin.builtin in
    let ps = parts_over b c.as_slice-in-Builtin.result.now in
    let e : tree_over b c.args.node.now ≡ tree.builtin f ps =
    ap (tree_over b) c.in-Builtin.is
    ∙ ap (λ l. tree.builtin f (parts_over b l)) (sym c.as_slice-in-Builtin.ensures.value) in
    let l = builtin_weight (tree_over b c.args.node.now) f ps e in
    (omega (arith, l, c.decreases), c.requires)

pub node-call-requires : goal.node-call-requires
node-call-requires t c =
    let b = tables_in c.args.scope.now in
    let f = c.in-Call.function.0 in
    let ps = parts_over b c.as_slice-in-Call.result.now in
    let e : tree_over b c.args.node.now ≡ tree.call f ps =
    ap (tree_over b) c.in-Call.is
    ∙ ap (λ l. tree.call f (parts_over b l)) (sym c.as_slice-in-Call.ensures.value) in
    let l = call_weight (tree_over b c.args.node.now) f ps e in
    (omega (arith, l, c.decreases), c.requires)

pub node-matching-requires : goal.node-matching-requires
node-matching-requires t c =
    let b = tables_in c.args.scope.now in
    let e = ap (tree_over b) c.in-Match.is in
    let l = match_weight (tree_over b c.args.node.now) _ (part_over b c.in-Match.part) e in
    (omega (arith, l, c.decreases), c.requires)

pub node-binding-requires : goal.node-binding-requires
node-binding-requires t c =
    let b = tables_in c.args.scope.now in
    let ids = c.as_slice-in-Bind.result.now in
    let p = part_over b c.in-Bind.part in
    let r = part_over b c.in-Bind.rest in
    let e : tree_over b c.args.node.now ≡ tree.bind (patterns_at b ids) p r =
    ap (tree_over b) c.in-Bind.is
    ∙ ap (λ l. tree.bind (patterns_at b l) p r) (sym c.as_slice-in-Bind.ensures.value) in
    let l = bind_weight (tree_over b c.args.node.now) b ids p r e in
    (omega (arith, l, c.decreases), c.requires)

pub node-case-requires : goal.node-case-requires
node-case-requires t c =
    let b = tables_in c.args.scope.now in
    let p = part_over b c.in-Case.part in
    let ks = clauses_over b c.as_slice-in-Case.result.now in
    let e : tree_over b c.args.node.now ≡ tree.case p ks =
    ap (tree_over b) c.in-Case.is
    ∙ ap (λ l. tree.case p (clauses_over b l)) (sym c.as_slice-in-Case.ensures.value) in
    let l = case_weight (tree_over b c.args.node.now) p ks e in
    (omega (arith, l, c.decreases), c.requires)

pub node-choice-requires : goal.node-choice-requires
node-choice-requires t c =
    let b = tables_in c.args.scope.now in
    let ks = clauses_over b c.as_slice-in-If.result.now in
    let e : tree_over b c.args.node.now ≡ tree.if_expression ks =
    ap (tree_over b) c.in-If.is
    ∙ ap (λ l. tree.if_expression (clauses_over b l)) (sym c.as_slice-in-If.ensures.value) in
    let l = if_weight (tree_over b c.args.node.now) ks e in
    (omega (arith, l, c.decreases), c.requires)

pub node-receive-requires : goal.node-receive-requires
node-receive-requires t c =
    let b = tables_in c.args.scope.now in
    let ks = clauses_over b c.as_slice-in-Receive.result.now in
    let e : tree_over b c.args.node.now ≡ tree.receive ks =
    ap (tree_over b) c.in-Receive.is
    ∙ ap (λ l. tree.receive (clauses_over b l)) (sym c.as_slice-in-Receive.ensures.value) in
    let l = receive_weight (tree_over b c.args.node.now) ks e in
    (omega (arith, l, c.decreases), c.requires)

pub node-returns-in_ok-operation-in-Tuple : goal.node-returns-in_ok-operation-in-Tuple
node-returns-in_ok-operation-in-Tuple t c =
    let b = tables_in c.args.scope.now in
    let to = c.args.to in
    let ps = parts_over b c.as_slice.result.now in
    let e : tree_over b c.args.node.now ≡ tree.tuple ps =
    ap (tree_over b) c.in-Tuple.is ∙ ap (λ l. tree.tuple (parts_over b l)) (sym c.as_slice.ensures.value) in
    let m = ap length c.as_slice.ensures.value in
    let n : c.len.result ≡ length c.as_slice.result.now = omega (arith, c.in-Tuple.parts.ok.0) in
    by_ok _ _ _ c.operate.ensures
    (λ pc h. subst (λ z. Made (code_of c.args.maker.now) (code_of c.operate.new.maker) pc
    (Evaluates c.args.scope.now z to pc)) (sym e)
    (evaluates_tuple c.args.scope.now to (code_of c.args.maker.now) (code_of c.operate.new.maker) pc
    c.in_ok-operation-in-Tuple.operation ps (length c.as_slice.result.now)
    (c.in_ok-operation-in-Tuple.ensures ∙ ap (λ k. ops.Tuple to.into to.free k) n) h))

pub node-returns-in_ok-operation-in-Builtin : goal.node-returns-in_ok-operation-in-Builtin
node-returns-in_ok-operation-in-Builtin t c =
    let b = tables_in c.args.scope.now in
    let to = c.args.to in
    let f = c.in-Builtin.builtin in
    let ps = parts_over b c.as_slice-in-Builtin.result.now in
    let e : tree_over b c.args.node.now ≡ tree.builtin f ps =
    ap (tree_over b) c.in-Builtin.is
    ∙ ap (λ l. tree.builtin f (parts_over b l)) (sym c.as_slice-in-Builtin.ensures.value) in
    let m = ap length c.as_slice-in-Builtin.ensures.value in
    let n : c.len-in-Builtin.result ≡ length c.as_slice-in-Builtin.result.now =
    omega (arith, c.in-Builtin.parts.ok.0) in
    by_ok _ _ _ c.operate-in-Builtin.ensures
    (λ pc h. subst (λ z. Made (code_of c.args.maker.now) (code_of c.operate-in-Builtin.new.maker) pc
    (Evaluates c.args.scope.now z to pc)) (sym e)
    (evaluates_builtin c.args.scope.now to (code_of c.args.maker.now) (code_of c.operate-in-Builtin.new.maker) pc
    c.in_ok-operation-in-Builtin.operation f ps (length c.as_slice-in-Builtin.result.now)
    (c.in_ok-operation-in-Builtin.ensures
    ∙ ap (λ k. if is_pure f then ops.Pure f to.into to.free k else ops.Ask f to.into to.free k) n) h))

pub node-returns-in_ok-operation-in-Cons : goal.node-returns-in_ok-operation-in-Cons
node-returns-in_ok-operation-in-Cons t c =
    let b = tables_in c.args.scope.now in
    by_ok _ _ _ c.operate-in-Cons.ensures
    (λ pc h. subst (λ z. Made (code_of c.args.maker.now) (code_of c.operate-in-Cons.new.maker) pc
    (Evaluates c.args.scope.now (tree_over b z) c.args.to pc)) (sym c.in-Cons.is)
    (evaluates_cons c.args.scope.now c.args.to (code_of c.args.maker.now) (code_of c.operate-in-Cons.new.maker) pc
    c.in_ok-operation-in-Cons.operation (part_over b c.in-Cons.first) (part_over b c.in-Cons.rest)
    c.in_ok-operation-in-Cons.ensures h))

pub node-returns-in_ok-operation-in-Binary : goal.node-returns-in_ok-operation-in-Binary
node-returns-in_ok-operation-in-Binary t c =
    let b = tables_in c.args.scope.now in
    by_ok _ _ _ c.operate-in-Binary.ensures
    (λ pc h. subst (λ z. Made (code_of c.args.maker.now) (code_of c.operate-in-Binary.new.maker) pc
    (Evaluates c.args.scope.now (tree_over b z) c.args.to pc)) (sym c.in-Binary.is)
    (evaluates_op c.args.scope.now c.args.to (code_of c.args.maker.now) (code_of c.operate-in-Binary.new.maker) pc
    c.in_ok-operation-in-Binary.operation c.in-Binary.operator (part_over b c.in-Binary.left)
    (part_over b c.in-Binary.right) c.in_ok-operation-in-Binary.ensures h))

pub node-returns-in_ok-operation-in-Send : goal.node-returns-in_ok-operation-in-Send
node-returns-in_ok-operation-in-Send t c =
    let b = tables_in c.args.scope.now in
    by_ok _ _ _ c.operate-in-Send.ensures
    (λ pc h. subst (λ z. Made (code_of c.args.maker.now) (code_of c.operate-in-Send.new.maker) pc
    (Evaluates c.args.scope.now (tree_over b z) c.args.to pc)) (sym c.in-Send.is)
    (evaluates_send c.args.scope.now c.args.to (code_of c.args.maker.now) (code_of c.operate-in-Send.new.maker) pc
    c.in_ok-operation-in-Send.operation (part_over b c.in-Send.receiver) (part_over b c.in-Send.message)
    c.in_ok-operation-in-Send.ensures h))

pub node-returns-in-Negate : goal.node-returns-in-Negate
node-returns-in-Negate t c =
    let b = tables_in c.args.scope.now in
    by_ok _ _ _ c.operate-in-Negate.ensures
    (λ pc h. subst (λ z. Made (code_of c.args.maker.now) (code_of c.operate-in-Negate.new.maker) pc
    (Evaluates c.args.scope.now (tree_over b z) c.args.to pc)) (sym c.in-Negate.is)
    (evaluates_neg c.args.scope.now c.args.to (code_of c.args.maker.now) (code_of c.operate-in-Negate.new.maker) pc
    c.negate_of-operation.result (part_over b c.in-Negate.part) c.negate_of-operation.ensures h))

pub node-returns-in-AndAlso : goal.node-returns-in-AndAlso
node-returns-in-AndAlso t c =
    by_ok _ _ _ c.decided.ensures
    (λ pc h. subst (λ z. Made (code_of c.args.maker.now) (code_of c.decided.new.maker) pc
    (Evaluates c.args.scope.now (tree_over (tables_in c.args.scope.now) z) c.args.to pc)) (sym c.in-AndAlso.is) h)

pub node-returns-in-OrElse : goal.node-returns-in-OrElse
node-returns-in-OrElse t c =
    by_ok _ _ _ c.decided-in-OrElse.ensures
    (λ pc h. subst (λ z. Made (code_of c.args.maker.now) (code_of c.decided-in-OrElse.new.maker) pc
    (Evaluates c.args.scope.now (tree_over (tables_in c.args.scope.now) z) c.args.to pc)) (sym c.in-OrElse.is) h)

pub node-returns-in-Call : goal.node-returns-in-Call
node-returns-in-Call t c =
    let b = tables_in c.args.scope.now in
    by_ok _ _ _ c.call.ensures
    (λ pc h. subst (λ z. Made (code_of c.args.maker.now) (code_of c.call.new.maker) pc
    (Evaluates c.args.scope.now z c.args.to pc))
    (sym (ap (tree_over b) c.in-Call.is
    ∙ ap (λ l. tree.call c.in-Call.function.0 (parts_over b l)) (sym c.as_slice-in-Call.ensures.value))) h)

pub node-returns-in-Match : goal.node-returns-in-Match
node-returns-in-Match t c =
    let b = tables_in c.args.scope.now in
    by_ok _ _ _ c.matching.ensures
    (λ pc h. subst (λ z. Made (code_of c.args.maker.now) (code_of c.matching.new.maker) pc
    (Evaluates c.args.scope.now z c.args.to pc))
    (sym (ap (tree_over b) c.in-Match.is
    ∙ ap (λ l. tree.match (patterns_at b l) (part_over b c.in-Match.part)) (sym c.as_slice-in-Match.ensures.value))) h)

pub node-returns-in-Bind : goal.node-returns-in-Bind
node-returns-in-Bind t c =
    let b = tables_in c.args.scope.now in
    by_ok _ _ _ c.binding.ensures
    (λ pc h. subst (λ z. Made (code_of c.args.maker.now) (code_of c.binding.new.maker) pc
    (Evaluates c.args.scope.now z c.args.to pc))
    (sym (ap (tree_over b) c.in-Bind.is
    ∙ ap (λ l. tree.bind (patterns_at b l) (part_over b c.in-Bind.part) (part_over b c.in-Bind.rest))
    (sym c.as_slice-in-Bind.ensures.value))) h)

pub node-returns-in-Case : goal.node-returns-in-Case
node-returns-in-Case t c =
    let b = tables_in c.args.scope.now in
    by_ok _ _ _ c.case.ensures
    (λ pc h. subst (λ z. Made (code_of c.args.maker.now) (code_of c.case.new.maker) pc
    (Evaluates c.args.scope.now z c.args.to pc))
    (sym (ap (tree_over b) c.in-Case.is
    ∙ ap (λ l. tree.case (part_over b c.in-Case.part) (clauses_over b l)) (sym c.as_slice-in-Case.ensures.value))) h)

pub node-returns-in-If : goal.node-returns-in-If
node-returns-in-If t c =
    let b = tables_in c.args.scope.now in
    by_ok _ _ _ c.choice.ensures
    (λ pc h. subst (λ z. Made (code_of c.args.maker.now) (code_of c.choice.new.maker) pc
    (Evaluates c.args.scope.now z c.args.to pc))
    (sym (ap (tree_over b) c.in-If.is
    ∙ ap (λ l. tree.if_expression (clauses_over b l)) (sym c.as_slice-in-If.ensures.value))) h)

pub node-returns-in-Receive : goal.node-returns-in-Receive
node-returns-in-Receive t c =
    let b = tables_in c.args.scope.now in
    by_ok _ _ _ c.receive.ensures
    (λ pc h. subst (λ z. Made (code_of c.args.maker.now) (code_of c.receive.new.maker) pc
    (Evaluates c.args.scope.now z c.args.to pc))
    (sym (ap (tree_over b) c.in-Receive.is
    ∙ ap (λ l. tree.receive (clauses_over b l)) (sym c.as_slice-in-Receive.ensures.value))) h)

-- ---- calls

pub call-step_to_raise-requires : goal.call-step_to_raise-requires
call-step_to_raise-requires t c = after_begun (code_of c.args.maker.now) c.args.to.after c.requires.2

pub call-returns-in_ok-next-in-None : goal.call-returns-in_ok-next-in-None
call-returns-in_ok-next-in-None t c =
    by_ok _ _ _ c.row.ensures
    (λ pc h. evaluates_undefined c.args.scope.now c.args.function.0
    (parts_over (tables_in c.args.scope.now) c.args.parts.now) (length c.args.parts.now) c.args.to
    (code_of c.args.maker.now) (code_of c.step_to_raise.new.maker) (code_of c.row.new.maker)
    c.in_ok-next-in-None.next pc
    c.requires.0 c.in-None.ensures c.in_ok-next-in-None.ensures h)

pub call-returns-in_ok-next-in-Some : goal.call-returns-in_ok-next-in-Some
call-returns-in_ok-next-in-Some t c =
    let n : c.in_ok-count.count ≡ length c.args.parts.now = omega (arith, c.in_ok-count.ensures) in
    let takes : Takes (model_in c.args.scope.now) c.args.function.0 (length c.args.parts.now) =
    record { function = _; there = c.in-Some.ensures; arity = omega (arith, n) } in
    by_ok _ _ _ c.row-in-Some.ensures
    (λ pc h. evaluates_call c.args.scope.now c.args.function.0
    (parts_over (tables_in c.args.scope.now) c.args.parts.now) (length c.args.parts.now) c.args.to
    (code_of c.args.maker.now) (code_of c.call_row.new.maker) (code_of c.row-in-Some.new.maker)
    c.in_ok-next-in-Some.next pc c.requires.0 takes
    (subst (λ k. Made (code_of c.args.maker.now) (code_of c.call_row.new.maker) c.in_ok-next-in-Some.next
    (Calls c.args.function.0 k c.args.to c.in_ok-next-in-Some.next)) n c.in_ok-next-in-Some.ensures) h)

-- ---- `andalso` and `orelse`

pub decided-give_register-requires : goal.decided-give_register-requires
decided-give_register-requires t c =
    after_more (code_of c.args.maker.now) (code_of c.operand.new.maker) c.args.to.after c.in_ok-other.ensures.grown
    c.requires.2

pub decided-operand-requires-2 : goal.decided-operand-requires-2
decided-operand-requires-2 t c = (
  omega (arith, c.decreases),
  target_first (code_of c.step.new.maker) (slots_in c.args.scope.now) c.args.to _ c.in_ok-step.step c.requires.1
      (search rules) c.at_free.ensures,
)

-- ---- matches

pub matching-operand-requires : goal.matching-operand-requires
matching-operand-requires t c = (
  omega (arith, c.decreases),
  target_first (code_of c.match_register.new.maker) (slots_in c.args.scope.now) c.args.to _ c.in_ok-next.next
      c.requires.1 c.in_ok-next.ensures.place c.at_free.ensures,
)

pub binding-binds-requires : goal.binding-binds-requires
binding-binds-requires t c = (
  omega (arith, c.decreases),
  (
    target_on (code_of c.args.maker.now) (code_of c.args.maker.now) (slots_in c.args.scope.now) c.args.to _
        c.in_ok-register_after.field-0 (omega (arith, c.in_ok-register_after.ensures))
        (extends_itself (code_of c.args.maker.now)) c.at_plan-above.ensures c.requires,
    omega (arith, c.in_ok-register_after.ensures, ap (λ z. z.free) c.at_plan-above.ensures),
  ),
)

pub binding-operand-requires : goal.binding-operand-requires
binding-operand-requires t c = (
  omega (arith, c.decreases),
  target_first (code_of c.binds.new.maker) (slots_in c.args.scope.now) c.args.to _ c.in_ok-next.next c.requires.1
      c.in_ok-next.ensures.place c.at_free.ensures,
)

pub binds-returns-in_ok-step-in-empty : goal.binds-returns-in_ok-step-in-empty
binds-returns-in_ok-step-in-empty t c =
    binds_none_at c.args.scope.now c.args.patterns.now (part_over (tables_in c.args.scope.now) c.args.rest)
    c.args.subject c.args.to (code_of c.args.maker.now) (code_of c.operand.new.maker) (code_of c.step.new.maker)
    c.in_ok-next-in-empty.next _ (omega arith) c.in_ok-next-in-empty.ensures c.in_ok-step-in-empty.ensures

pub binds-binds-requires : goal.binds-binds-requires
binds-binds-requires t c =
    let planned = c.in_ok-plan-in-len1-up-2.ensures in
    let begun = c.in_ok-plan-in-len1-up.ensures in
    let f = begun.free_is in
    let g = planned.higher in (
      omega (arith, c.decreases),
      (
        target_above (code_of c.args.maker.now) (code_of c.plan.new.self) (slots_in c.args.scope.now)
            c.as_slice.result.now c.args.to _ c.plan.new.plan.free (omega arith)
            (subst (AreBelow c.plan.new.plan.free) (sym c.as_slice.ensures.value) planned.below) planned.grown
            c.at_plan.ensures c.requires.target,
        omega (arith, ap (λ z. z.free) c.at_plan.ensures, c.requires.subject_below),
      ),
    )

pub binds-returns-in_ok-step-in-len1-up : goal.binds-returns-in_ok-step-in-len1-up
binds-returns-in_ok-step-in-len1-up t c =
    let b = tables_in c.args.scope.now in
    let to = c.args.to in
    let before = c.in_ok-plan-in-len1-up.plan in
    let after = c.plan.new.plan in
    let next = c.in_ok-next-in-len1-up.next in
    let inner : Scope = record { code = c.args.scope.now.code; slots = c.as_slice.result } in
    let begun : Begun c.args.scope.now inner to before after = record {
      model = refl;
      inner_slots = c.as_slice.ensures.value;
      slots = c.in_ok-plan-in-len1-up.ensures.slots_are;
      free = c.in_ok-plan-in-len1-up.ensures.free_is;
      tests = c.in_ok-plan-in-len1-up.ensures.no_test;
    } in
    binds_at c.args.scope.now inner c.args.patterns.now _ c.args.rest c.args.subject to before after
    (code_of c.args.maker.now) (code_of c.plan.new.self) (code_of c.binds.new.maker) (code_of c.raise_with.new.maker)
    (code_of c.lay.new.self) (code_of c.step-in-len1-up.new.maker) next c.in_ok-raise-in-len1-up.raise
    c.in_ok-first-in-len1-up.first _ (omega arith) c.requires.target.0 c.requires.subject_below c.requires.target.1
    begun refl c.in_ok-plan-in-len1-up-2.ensures
    (subst (λ z. Made (code_of c.plan.new.self) (code_of c.binds.new.maker) next
    (Binds inner (patterns_at b (rest c.args.patterns.now)) (part_over b c.args.rest) c.args.subject z next))
    c.at_plan.ensures c.in_ok-next-in-len1-up.ensures)
    c.in_ok-raise-in-len1-up.ensures
    (subst (λ ts. Made (code_of c.raise_with.new.maker) (code_of c.lay.new.self) c.in_ok-first-in-len1-up.first
    (Lays ts next c.in_ok-raise-in-len1-up.raise c.in_ok-first-in-len1-up.first)) c.as_slice-in-len1-up.ensures.value
    c.in_ok-first-in-len1-up.ensures) c.in_ok-step-in-len1-up.ensures

-- ---- clauses

pub case-pick-requires : goal.case-pick-requires
case-pick-requires t c = (
  omega (arith, c.decreases),
  (
    target_on (code_of c.args.maker.now) (code_of c.raise_with.new.maker) (slots_in c.args.scope.now) c.args.to _
        c.in_ok-register_after.field-0 (omega (arith, c.in_ok-register_after.ensures)) c.in_ok-raise.ensures.grown
        c.at_plan-above.ensures c.requires,
    (
      omega (arith, c.in_ok-register_after.ensures, ap (λ z. z.free) c.at_plan-above.ensures),
      c.in_ok-raise.ensures.place,
    ),
  ),
)

pub case_of_variable-pick-requires : goal.case_of_variable-pick-requires
case_of_variable-pick-requires t c =
    let slots = slots_in c.args.scope.now in
    let old = code_of c.args.maker.now in (
      omega (arith, c.decreases),
      (
        target_on old (code_of c.raise_with.new.maker) slots c.args.to c.args.to c.args.to.free (omega arith)
            c.in_ok-raise.ensures.grown refl c.requires.target,
        (
          variable_below old slots c.args.to c.args.variable.0 c.args.variable.1 c.requires.target c.requires.register,
          c.in_ok-raise.ensures.place,
        ),
      ),
    )

pub case_of_variable-returns : goal.case_of_variable-returns
case_of_variable-returns t c =
    let slots = slots_in c.args.scope.now in
    let old = code_of c.args.maker.now in
    let ks = clauses_over (tables_in c.args.scope.now) c.args.clauses.now in
    let below = variable_below old slots c.args.to c.args.variable.0 c.args.variable.1 c.requires.target
    c.requires.register in
    evaluates_case_of c.args.scope.now ks c.args.to c.args.variable.0 c.args.variable.1 old
    (code_of c.raise_with.new.maker) (code_of c.pick.new.maker) (code_of c.step.new.maker) c.in_ok-raise.raise
    c.in_ok-first.first _ below c.requires.register c.in_ok-raise.ensures c.in_ok-first.ensures c.in_ok-step.ensures

pub choice-pick-requires : goal.choice-pick-requires
choice-pick-requires t c = (
  omega (arith, c.decreases),
  (
    target_on (code_of c.args.maker.now) (code_of c.raise.new.maker) (slots_in c.args.scope.now) c.args.to _
        c.in_ok-register_after.field-0 (omega (arith, c.in_ok-register_after.ensures)) c.in_ok-raise.ensures.grown
        c.at_plan-above.ensures c.requires,
    (
      omega (arith, c.in_ok-register_after.ensures, ap (λ z. z.free) c.at_plan-above.ensures),
      c.in_ok-raise.ensures.place,
    ),
  ),
)

pub receive-pick-requires : goal.receive-pick-requires
receive-pick-requires t c = (
  omega (arith, c.decreases),
  (
    target_on (code_of c.args.maker.now) (code_of c.pass.new.maker) (slots_in c.args.scope.now) c.args.to _
        c.in_ok-register_after.field-0 (omega (arith, c.in_ok-register_after.ensures)) c.in_ok-pass.ensures.grown
        c.at_plan-above.ensures c.requires,
    (
      omega (arith, c.in_ok-register_after.ensures, ap (λ z. z.free) c.at_plan-above.ensures),
      c.in_ok-pass.ensures.place,
    ),
  ),
)

pub pick-returns-in_ok-lay-in-len1-up : goal.pick-returns-in_ok-lay-in-len1-up
pick-returns-in_ok-lay-in-len1-up t c =
    let b = tables_in c.args.scope.now in
    let to = c.args.to in
    let before = c.in_ok-plan-in-len1-up.plan in
    let after = c.plan.new.plan in
    let next = c.in_ok-next-in-len1-up.next in
    let body = c.in_ok-body-in-len1-up.body in
    let guard = c.in_ok-guard-in-len1-up.guard in
    let inner : Scope = record { code = c.args.scope.now.code; slots = c.as_slice.result } in
    let item : c.clause-item.result ≡ get_or c.args.clauses.now 0 c.clause-item.result =
    search (rules, c.clause-item.is) in
    let begun : Begun c.args.scope.now inner to before after = record {
      model = refl;
      inner_slots = c.as_slice.ensures.value;
      slots = c.in_ok-plan-in-len1-up.ensures.slots_are;
      free = c.in_ok-plan-in-len1-up.ensures.free_is;
      tests = c.in_ok-plan-in-len1-up.ensures.no_test;
    } in
    picks_at c.args.scope.now inner c.args.clauses.now c.clause-item.result c.args.subject to before after
    (code_of c.args.maker.now) (code_of c.pick.new.maker) (code_of c.plan.new.self) (code_of c.operand.new.maker)
    (code_of c.enter_body.new.maker) (code_of c.guard.new.self) (code_of c.lay.new.self) c.args.otherwise next body
    c.in_ok-start-in-len1-up.start guard _ (omega arith)
    c.requires.target.0 c.requires.subject_below c.requires.target.1 begun refl c.in_ok-next-in-len1-up.ensures
    (subst (λ k. Planned (code_of c.pick.new.maker) (code_of c.plan.new.self) before after
    (fit_at (pattern_at b k.pattern.0) (register_of c.args.subject))) item
    (subst (λ n. Planned (code_of c.pick.new.maker) (code_of c.plan.new.self) before after
    (fit_at (pattern_at b c.clause-item.result.pattern.0) n)) c.register_in.ensures c.in_ok-plan-in-len1-up-2.ensures))
    (subst (λ k. Made (code_of c.plan.new.self) (code_of c.operand.new.maker) body
    (Evaluates inner (part_over b k.body) (inner_target to after.free) body)) item
    (subst (λ z. Made (code_of c.plan.new.self) (code_of c.operand.new.maker) body
    (Evaluates inner (part_over b c.clause-item.result.body) z body)) c.at_plan.ensures
    c.in_ok-body-in-len1-up.ensures))
    c.in_ok-start-in-len1-up.ensures
    (subst (λ k. Made (code_of c.enter_body.new.maker) (code_of c.guard.new.self) guard
    (AsksBelow (model_in inner) (exits_to after.free c.in_ok-start-in-len1-up.start next) guard
    (holds_at inner (guard_over b k.guard)))) item
    c.in_ok-guard-in-len1-up.ensures)
    (subst (λ ts. Made (code_of c.guard.new.self) (code_of c.lay.new.self) c.in_ok-lay-in-len1-up.field-0
    (Lays ts guard next c.in_ok-lay-in-len1-up.field-0)) c.as_slice-in-len1-up.ensures.value
    c.in_ok-lay-in-len1-up.ensures)
