use Rattle.std.proofs.Common.{◌≡◌, ◌+◌, ◌*◌, drop, option_map}
use Rattle.pf_terms.specs.Term.{values_of}
use Rattle.pf_syntax.specs.Tree.{tree_size, size_in}
use Rattle.pf_syntax.specs.Over.{part_over, parts_over, tree_over}
use Rattle.pf_ops.specs.Operations.{values_before}
use Rattle.pf_ops.specs.Surroundings.{tables_in, all_worth_in}
use Rattle.pf_ops.proofs.guards.+worth.Given as goal

abbrev pub decreases-worth : goal.decreases-worth
decreases-worth l = 3 * tree_size (part_over (tables_in l.around.now) l.part) + 2

abbrev pub decreases-node_worth : goal.decreases-node_worth
decreases-node_worth l = 3 * tree_size (tree_over (tables_in l.around.now) l.node.now) + 1

abbrev pub decreases-binary_worth : goal.decreases-binary_worth
decreases-binary_worth l = 3 * (tree_size (part_over (tables_in l.around.now) l.left)
    + tree_size (part_over (tables_in l.around.now) l.right)) + 3

abbrev pub decreases-decided_worth : goal.decreases-decided_worth
decreases-decided_worth l = 3 * (tree_size (part_over (tables_in l.around.now) l.left)
    + tree_size (part_over (tables_in l.around.now) l.right)) + 3

abbrev pub decreases-cons_worth : goal.decreases-cons_worth
decreases-cons_worth l = 3 * (tree_size (part_over (tables_in l.around.now) l.first)
    + tree_size (part_over (tables_in l.around.now) l.rest)) + 3

abbrev pub decreases-negated_worth : goal.decreases-negated_worth
decreases-negated_worth l = 3 * tree_size (part_over (tables_in l.around.now) l.part) + 3

abbrev pub decreases-tuple_worth : goal.decreases-tuple_worth
decreases-tuple_worth l = 3 * size_in (parts_over (tables_in l.around.now) l.parts.now) + 3

abbrev pub decreases-builtin_worth : goal.decreases-builtin_worth
decreases-builtin_worth l = 3 * size_in (parts_over (tables_in l.around.now) l.parts.now) + 3

abbrev pub decreases-all_worth : goal.decreases-all_worth
decreases-all_worth l = 3 * size_in (parts_over (tables_in l.around.now) l.parts.now) + 2

-- the values so far, before those of the tests that are left, are the values of all
abbrev pub invariant-all_worth-loop-part : goal.invariant-all_worth-loop-part
invariant-all_worth-loop-part l =
    option_map (values_before (values_of l.items.items))
    (all_worth_in l.around (parts_over (tables_in l.around) (drop l.part-index l.parts))) ≡ all_worth_in l.around
    (parts_over (tables_in l.around) l.parts)
