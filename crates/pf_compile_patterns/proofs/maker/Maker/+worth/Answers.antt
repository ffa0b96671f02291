use Rattle.std.proofs.Common.{◌≡◌, length, sym, ap, ◌∙◌, subst, arith, rules}
use Rattle.pf_syntax.specs.Tree as tree
use Rattle.pf_syntax.specs.Over.{part_over, parts_over, tree_over}
use Rattle.pf_code.specs.declared.instruction.Operation.TheVariants as ops
use Rattle.pf_compile_patterns.specs.Maker.{code_of}
use Rattle.pf_compile_patterns.specs.Growth.{Made}
use Rattle.pf_compile_patterns.specs.Scopes.{slots_in, tables_in}
use Rattle.pf_compile_patterns.specs.Guarded.{Worths}
use Rattle.pf_compile_patterns.proofs.Grown.{by_ok}
use Rattle.pf_compile_patterns.proofs.Dependent.{below_more}
use Rattle.pf_compile_patterns.proofs.Guarded.{applies, decides, worth_of_tuple, worth_of_cons}
use Rattle.pf_compile_patterns.proofs.Guarded.{worth_of_op, worth_of_neg}
use Rattle.pf_compile_patterns.proofs.Guarded.{worth_of_builtin, value_worth, int_worth, slot_worth, no_slot_worth}
use Rattle.pf_compile_patterns.proofs.Sizes.{tuple_lighter, builtin_lighter, rest_lighter}
use Rattle.pf_compile_patterns.proofs.Slices.{worths_at}
use Rattle.pf_compile_patterns.proofs.maker.Maker.+worth.Goals as goal

pub all_worth-all_worth-requires : goal.all_worth-all_worth-requires
all_worth-all_worth-requires t c =
    let l = rest_lighter (tables_in c.args.scope.now) c.args.parts.now (omega arith) in (
      omega (arith, l, c.decreases),
      (
        below_more c.args.exits.free _ (slots_in c.args.scope.now) (omega arith) c.requires.slots_below,
        c.requires.exits_there,
      ),
    )

pub all_worth-returns-in_ok-next-in-len1-up : goal.all_worth-returns-in_ok-next-in-len1-up
all_worth-returns-in_ok-next-in-len1-up t c =
    by_ok _ _ _ c.worth.ensures
    (λ pc h. worths_at c.args.scope.now c.args.parts.now _ c.in_ok-register_after-in-len1-up.field-0 c.args.exits
    (code_of c.args.self.now) (code_of c.all_worth.new.self) (code_of c.worth.new.self) c.in_ok-next-in-len1-up.next pc
    (omega arith) c.requires.slots_below c.in_ok-register_after-in-len1-up.ensures c.in_ok-next-in-len1-up.ensures h)

pub applied_worth-returns : goal.applied_worth-returns
applied_worth-returns t c =
    by_ok _ _ _ c.all_worth.ensures
    (λ pc h. applies c.args.scope.now (parts_over (tables_in c.args.scope.now) c.args.parts.now)
    (length c.args.parts.now) c.args.operation c.args.exits (code_of c.args.self.now) (code_of c.test.new.self)
    (code_of c.all_worth.new.self) c.in_ok-next.next pc c.in_ok-next.ensures h)

pub decided_worth-returns : goal.decided_worth-returns
decided_worth-returns t c =
    let b = tables_in c.args.scope.now in
    by_ok _ _ _ c.worth-2.ensures
    (λ pc h. decides c.args.scope.now c.args.decides (part_over b c.args.left) (part_over b c.args.right) c.args.exits
    (code_of c.args.self.now) (code_of c.worth.new.self) (code_of c.truth.new.self) (code_of c.worth-2.new.self)
    c.in_ok-other.other c.in_ok-truth.truth pc c.requires.slots_below c.in_ok-other.ensures c.in_ok-truth.ensures h)

pub node_worth-applied_worth-requires : goal.node_worth-applied_worth-requires
node_worth-applied_worth-requires t c =
    let b = tables_in c.args.scope.now in
    let e : tree_over b c.args.node.now ≡ tree.tuple (parts_over b c.as_slice.result.now) =
    ap (tree_over b) c.in-Tuple.is ∙ ap (λ l. tree.tuple (parts_over b l)) (sym c.as_slice.ensures.value) in
    let l = tuple_lighter (tree_over b c.args.node.now) (parts_over b c.as_slice.result.now) e in
    (omega (arith, l, c.decreases), (c.requires.slots_below, c.requires.exits_there))

pub node_worth-applied_worth-requires-in-Builtin : goal.node_worth-applied_worth-requires-in-Builtin
node_worth-applied_worth-requires-in-Builtin t c =
    let b = tables_in c.args.scope.now in
    let parts = c.as_slice-in-Builtin.result.now in
    let e : tree_over b c.args.node.now ≡ tree.builtin c.in-Builtin.builtin (parts_over b parts) =
    ap (tree_over b) c.in-Builtin.is
    ∙ ap (λ l. tree.builtin c.in-Builtin.builtin (parts_over b l)) (sym c.as_slice-in-Builtin.ensures.value) in
    let l = builtin_lighter (tree_over b c.args.node.now) c.in-Builtin.builtin
    (parts_over b c.as_slice-in-Builtin.result.now) e in
    (omega (arith, l, c.decreases), (c.requires.slots_below, c.requires.exits_there))

pub node_worth-returns-in_ok-operation-in-Tuple : goal.node_worth-returns-in_ok-operation-in-Tuple
node_worth-returns-in_ok-operation-in-Tuple t c =
    let b = tables_in c.args.scope.now in
    let x = c.args.exits in
    let e : tree_over b c.args.node.now ≡ tree.tuple (parts_over b c.as_slice.result.now) =
    ap (tree_over b) c.in-Tuple.is ∙ ap (λ l. tree.tuple (parts_over b l)) (sym c.as_slice.ensures.value) in
    let m = ap length c.as_slice.ensures.value in
    let n : c.len.result ≡ length c.as_slice.result.now = omega (arith, c.in-Tuple.parts.ok.0) in
    by_ok _ _ _ c.applied_worth.ensures
    (λ pc h. subst (λ z. Made (code_of c.args.self.now) (code_of c.applied_worth.new.self) pc
    (Worths c.args.scope.now z x pc)) (sym e)
    (worth_of_tuple c.args.scope.now x (code_of c.args.self.now) (code_of c.applied_worth.new.self) pc
    c.in_ok-operation-in-Tuple.operation c.requires.exits_there (parts_over b c.as_slice.result.now)
    (length c.as_slice.result.now)
    (c.in_ok-operation-in-Tuple.ensures ∙ ap (λ k. ops.Tuple x.free x.free k) n) h))

pub node_worth-returns-in_ok-operation-in-Cons : goal.node_worth-returns-in_ok-operation-in-Cons
node_worth-returns-in_ok-operation-in-Cons t c =
    let b = tables_in c.args.scope.now in
    let x = c.args.exits in
    by_ok _ _ _ c.applied_worth-in-Cons.ensures
    (λ pc h. subst (λ z. Made (code_of c.args.self.now) (code_of c.applied_worth-in-Cons.new.self) pc
    (Worths c.args.scope.now (tree_over b z) x pc)) (sym c.in-Cons.is)
    (worth_of_cons c.args.scope.now x (code_of c.args.self.now) (code_of c.applied_worth-in-Cons.new.self) pc
    c.in_ok-operation-in-Cons.operation c.requires.exits_there (part_over b c.in-Cons.first)
    (part_over b c.in-Cons.rest) c.in_ok-operation-in-Cons.ensures h))

pub node_worth-returns-in_ok-operation-in-Binary : goal.node_worth-returns-in_ok-operation-in-Binary
node_worth-returns-in_ok-operation-in-Binary t c =
    let b = tables_in c.args.scope.now in
    let x = c.args.exits in
    by_ok _ _ _ c.applied_worth-in-Binary.ensures
    (λ pc h. subst (λ z. Made (code_of c.args.self.now) (code_of c.applied_worth-in-Binary.new.self) pc
    (Worths c.args.scope.now (tree_over b z) x pc)) (sym c.in-Binary.is)
    (worth_of_op c.args.scope.now x (code_of c.args.self.now) (code_of c.applied_worth-in-Binary.new.self) pc
    c.in_ok-operation-in-Binary.operation c.requires.exits_there c.in-Binary.operator (part_over b c.in-Binary.left)
    (part_over b c.in-Binary.right) c.in_ok-operation-in-Binary.ensures h))

pub node_worth-returns-in-Negate : goal.node_worth-returns-in-Negate
node_worth-returns-in-Negate t c =
    let b = tables_in c.args.scope.now in
    let x = c.args.exits in
    by_ok _ _ _ c.applied_worth-in-Negate.ensures
    (λ pc h. subst (λ z. Made (code_of c.args.self.now) (code_of c.applied_worth-in-Negate.new.self) pc
    (Worths c.args.scope.now (tree_over b z) x pc)) (sym c.in-Negate.is)
    (worth_of_neg c.args.scope.now x (code_of c.args.self.now) (code_of c.applied_worth-in-Negate.new.self) pc
    c.negate_of-operation.result c.requires.exits_there (part_over b c.in-Negate.part) c.negate_of-operation.ensures h))

pub node_worth-returns-in-AndAlso : goal.node_worth-returns-in-AndAlso
node_worth-returns-in-AndAlso t c =
    by_ok _ _ _ c.decided_worth.ensures
    (λ pc h. subst (λ z. Made (code_of c.args.self.now) (code_of c.decided_worth.new.self) pc
    (Worths c.args.scope.now (tree_over (tables_in c.args.scope.now) z) c.args.exits pc)) (sym c.in-AndAlso.is) h)

pub node_worth-returns-in-OrElse : goal.node_worth-returns-in-OrElse
node_worth-returns-in-OrElse t c =
    by_ok _ _ _ c.decided_worth-in-OrElse.ensures
    (λ pc h. subst (λ z. Made (code_of c.args.self.now) (code_of c.decided_worth-in-OrElse.new.self) pc
    (Worths c.args.scope.now (tree_over (tables_in c.args.scope.now) z) c.args.exits pc)) (sym c.in-OrElse.is) h)

pub node_worth-returns-in_ok-operation-in-Builtin : goal.node_worth-returns-in_ok-operation-in-Builtin
node_worth-returns-in_ok-operation-in-Builtin t c =
    let b = tables_in c.args.scope.now in
    let x = c.args.exits in
    let f = c.in-Builtin.builtin in
    let e : tree_over b c.args.node.now ≡ tree.builtin f (parts_over b c.as_slice-in-Builtin.result.now) =
    ap (tree_over b) c.in-Builtin.is
    ∙ ap (λ l. tree.builtin f (parts_over b l)) (sym c.as_slice-in-Builtin.ensures.value) in
    let m = ap length c.as_slice-in-Builtin.ensures.value in
    let n : c.len-in-Builtin.result ≡ length c.as_slice-in-Builtin.result.now =
    omega (arith, c.in-Builtin.parts.ok.0) in
    by_ok _ _ _ c.applied_worth-in-Builtin.ensures
    (λ pc h. subst (λ z. Made (code_of c.args.self.now) (code_of c.applied_worth-in-Builtin.new.self) pc
    (Worths c.args.scope.now z x pc)) (sym e)
    (worth_of_builtin c.args.scope.now x (code_of c.args.self.now) (code_of c.applied_worth-in-Builtin.new.self) pc
    c.in_ok-operation-in-Builtin.operation c.requires.exits_there f (parts_over b c.as_slice-in-Builtin.result.now)
    (length c.as_slice-in-Builtin.result.now)
    (c.in_ok-operation-in-Builtin.ensures ∙ ap (λ k. ops.Pure f x.free x.free k) n) h))

pub worth-returns-in-None : goal.worth-returns-in-None
worth-returns-in-None t c =
    by_ok _ _ _ c.load_value.ensures
    (λ pc h. value_worth c.args.scope.now (part_over (tables_in c.args.scope.now) c.args.part) c.args.exits
    (code_of c.args.self.now) (code_of c.load_value.new.self) pc _
    (ap (part_over (tables_in c.args.scope.now)) c.in-Node.is ∙ c.in-None.ensures.found) h)

pub worth-returns-in-Some-slot_at : goal.worth-returns-in-Some-slot_at
worth-returns-in-Some-slot_at t c =
    by_ok _ _ _ c.load.ensures
    (λ pc h. slot_worth c.args.scope.now (part_over (tables_in c.args.scope.now) c.args.part) c.args.exits
    (code_of c.args.self.now) (code_of c.load.new.self) pc c.in-Slot.index _
    (ap (part_over (tables_in c.args.scope.now)) c.in-Slot.is) c.in-Some-slot_at.ensures h)

pub worth-returns-in-None-slot_at : goal.worth-returns-in-None-slot_at
worth-returns-in-None-slot_at t c =
    no_slot_worth c.args.scope.now (part_over (tables_in c.args.scope.now) c.args.part) c.args.exits
    (code_of c.args.self.now) c.in-Slot.index (ap (part_over (tables_in c.args.scope.now)) c.in-Slot.is)
    c.in-None-slot_at.ensures c.requires.exits_there

pub worth-returns-in-Int : goal.worth-returns-in-Int
worth-returns-in-Int t c =
    by_ok _ _ _ c.load_value-in-Int.ensures
    (λ pc h. int_worth c.args.scope.now (part_over (tables_in c.args.scope.now) c.args.part) c.args.exits
    (code_of c.args.self.now) (code_of c.load_value-in-Int.new.self) pc _ c.in-Int.n
    (ap (part_over (tables_in c.args.scope.now)) c.in-Int.is) h (search rules))

pub worth-returns-in-Atom : goal.worth-returns-in-Atom
worth-returns-in-Atom t c =
    by_ok _ _ _ c.load_value-in-Atom.ensures
    (λ pc h. value_worth c.args.scope.now (part_over (tables_in c.args.scope.now) c.args.part) c.args.exits
    (code_of c.args.self.now) (code_of c.load_value-in-Atom.new.self) pc _
    (ap (part_over (tables_in c.args.scope.now)) c.in-Atom.is) h)

pub worth-returns-in-Nil : goal.worth-returns-in-Nil
worth-returns-in-Nil t c =
    by_ok _ _ _ c.load_value-in-Nil.ensures
    (λ pc h. value_worth c.args.scope.now (part_over (tables_in c.args.scope.now) c.args.part) c.args.exits
    (code_of c.args.self.now) (code_of c.load_value-in-Nil.new.self) pc _
    (ap (part_over (tables_in c.args.scope.now)) c.in-Nil.is) h)

pub worth-returns-in_ok-value-in-Literal : goal.worth-returns-in_ok-value-in-Literal
worth-returns-in_ok-value-in-Literal t c =
    by_ok _ _ _ c.load_value-in-Literal.ensures
    (λ pc h. value_worth c.args.scope.now (part_over (tables_in c.args.scope.now) c.args.part) c.args.exits
    (code_of c.args.self.now) (code_of c.load_value-in-Literal.new.self) pc _
    (ap (part_over (tables_in c.args.scope.now)) c.in-Literal.is
    ∙ ap tree.lit (sym c.in_ok-value-in-Literal.ensures)) h)
