use Rattle.std.proofs.Common.{◌+◌, ◌*◌}
use Rattle.pf_syntax.specs.Tree.{tree_size}
use Rattle.pf_syntax.specs.Over.{part_over, parts_over, tree_over}
use Rattle.pf_compile_patterns.specs.Scopes.{tables_in}
use Rattle.pf_compile_patterns.proofs.Sizes.{parts_size}
use Rattle.pf_compile_patterns.proofs.maker.Maker.+worth.Given as goal

abbrev pub decreases-worth : goal.decreases-worth
decreases-worth l = 5 * tree_size (part_over (tables_in l.scope.now) l.part) + 4

abbrev pub decreases-node_worth : goal.decreases-node_worth
decreases-node_worth l = 5 * tree_size (tree_over (tables_in l.scope.now) l.node.now) + 3

abbrev pub decreases-all_worth : goal.decreases-all_worth
decreases-all_worth l = 5 * parts_size (parts_over (tables_in l.scope.now) l.parts.now) + 5

abbrev pub decreases-applied_worth : goal.decreases-applied_worth
decreases-applied_worth l = 5 * parts_size (parts_over (tables_in l.scope.now) l.parts.now) + 6

abbrev pub decreases-decided_worth : goal.decreases-decided_worth
decreases-decided_worth l = 5 * (tree_size (part_over (tables_in l.scope.now) l.left)
    + tree_size (part_over (tables_in l.scope.now) l.right)) + 7
