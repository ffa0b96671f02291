use Rattle.std.proofs.Common.{◌≡◌, sym, ap, ◌∙◌, subst, option_map, arith}
use Rattle.std.specs.Prelude.{IfOk}
use Rattle.pf_terms.specs.Term.{value_of}
use Rattle.pf_terms.specs.Atoms.{name_of}
use Rattle.pf_syntax.specs.Over.{parts_over, tree_over}
use Rattle.pf_syntax.specs.declared.node.Operand.TheVariants as part
use Rattle.pf_patterns.specs.Slots.{activation}
use Rattle.pf_ops.specs.Surroundings.{tables_in, worth_in, all_worth_in}
use Rattle.pf_ops.proofs.Tests.{part_below, worths_next, worths_end}
use Rattle.pf_ops.proofs.guards.+worth.Goals as goal

pub all_worth-worth-requires : goal.all_worth-worth-requires
all_worth-worth-requires t c = (
  omega (
    arith,
    part_below (tables_in c.args.around.now) c.args.parts.now c.loop-part.part-index (part.Slot 0)
        c.loop-part-test.true,
  ),
  tt,
)

pub all_worth-loop-part-preserved : goal.all_worth-loop-part-preserved
all_worth-loop-part-preserved t c =
    let a = c.args.around.now in
    worths_next (name_of a.code.now.atoms) a.own (activation a.env.now a.base) (tables_in a) c.args.parts.now
    c.loop-part.part-index (part.Slot 0) c.loop-part.items.items c.push.new.self.items c.in-Some.value
    (all_worth_in a (parts_over (tables_in a) c.args.parts.now)) c.loop-part-test.true
    c.in_ok-push-in-Some.ensures.items
    (ap (option_map value_of) (sym c.in-Some.is) ∙ c.in_ok-value.ensures) c.loop-part.invariant

pub all_worth-returns : goal.all_worth-returns
all_worth-returns t c =
    let a = c.args.around.now in
    worths_end (name_of a.code.now.atoms) a.own (activation a.env.now a.base) (tables_in a) c.args.parts.now
    c.loop-part.part-index c.loop-part.items.items
    (all_worth_in a (parts_over (tables_in a) c.args.parts.now)) c.loop-part-test.false c.loop-part.invariant

pub node_worth-returns-in-AndAlso : goal.node_worth-returns-in-AndAlso
node_worth-returns-in-AndAlso t c =
    subst (λ n. IfOk c.decided_worth.result (λ o. option_map value_of o ≡ worth_in c.args.around.now
    (tree_over (tables_in c.args.around.now) n))) (sym c.in-AndAlso.is) c.decided_worth.ensures

pub node_worth-returns-in-OrElse : goal.node_worth-returns-in-OrElse
node_worth-returns-in-OrElse t c =
    subst (λ n. IfOk c.decided_worth-in-OrElse.result
    (λ o. option_map value_of o ≡ worth_in c.args.around.now (tree_over (tables_in c.args.around.now) n)))
    (sym c.in-OrElse.is) c.decided_worth-in-OrElse.ensures
