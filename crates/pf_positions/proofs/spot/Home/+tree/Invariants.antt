use Rattle.std.proofs.Common.{◌≡◌, ◌++◌, ◌+◌, ◌*◌, ◌≤◌, drop, map}
use Rattle.pf_syntax.specs.Over.{alternatives_over, clauses_over, guard_over, part_over, parts_over, tree_over}
use Rattle.pf_positions.specs.Added.{spot_seen}
use Rattle.pf_positions.specs.Spots.{clauses_spots, guard_spots, tree_spots, trees_spots}
use Rattle.pf_positions.proofs.Weights.{clause_weight, clauses_weight, guard_weight, weight, weights}
use Rattle.pf_positions.proofs.spot.Home.+tree.Given as goal

abbrev pub decreases-put_tree : goal.decreases-put_tree
decreases-put_tree l = 4 * weight (part_over l.self.module.now.tables l.operand) + 1

abbrev pub decreases-put_front : goal.decreases-put_front
decreases-put_front l = 4 * weight (tree_over l.self.module.now.tables l.node.now)

abbrev pub decreases-put_infix : goal.decreases-put_infix
decreases-put_infix l = 4 * (weight (part_over l.self.module.now.tables l.left)
    + weight (part_over l.self.module.now.tables l.right)) + 2

abbrev pub decreases-put_trees : goal.decreases-put_trees
decreases-put_trees l = 4 * weights (parts_over l.self.module.now.tables l.operands.now)

abbrev pub decreases-put_guard : goal.decreases-put_guard
decreases-put_guard l = 4 * guard_weight (guard_over l.self.module.now.tables l.guard.now)

abbrev pub decreases-put_clause : goal.decreases-put_clause
decreases-put_clause l = 4 * clause_weight l.self.module.now.tables l.clause.now

abbrev pub decreases-put_clauses : goal.decreases-put_clauses
decreases-put_clauses l = 4 * clauses_weight (clauses_over l.self.module.now.tables l.clauses.now)

-- those of the part that the walk is at are left, and it is no larger than the whole
abbrev pub invariant-put_tree-loop-at : goal.invariant-put_tree-loop-at
invariant-put_tree-loop-at l =
    let t = l.self.module.now.tables in
    record {
      added : map (spot_seen t) l.spots.items ++ tree_spots l.self.function.0 (part_over t l.at)
          ≡ map (spot_seen t) l.fn.spots.items ++ tree_spots l.self.function.0 (part_over t l.fn.operand);
      lighter : weight (part_over t l.at) ≤ weight (part_over t l.fn.operand);
    }

abbrev pub decreases-put_tree-loop-at : goal.decreases-put_tree-loop-at
decreases-put_tree-loop-at l = weight (part_over l.self.module.now.tables l.at)

abbrev pub invariant-put_trees-loop-operand : goal.invariant-put_trees-loop-operand
invariant-put_trees-loop-operand l =
    let t = l.self.module.now.tables in
    map (spot_seen t) l.spots.items ++ trees_spots l.self.function.0 (parts_over t (drop l.operand-index l.operands))
    ≡ map (spot_seen t) l.fn.spots.items ++ trees_spots l.self.function.0 (parts_over t l.operands)

abbrev pub invariant-put_guard-loop-alternative : goal.invariant-put_guard-loop-alternative
invariant-put_guard-loop-alternative l =
    let t = l.self.module.now.tables in
    map (spot_seen t) l.spots.items ++ guard_spots l.self.function.0
    (alternatives_over t (drop l.alternative-index l.guard.alternatives.items))
    ≡ map (spot_seen t) l.fn.spots.items ++ guard_spots l.self.function.0
    (alternatives_over t l.guard.alternatives.items)

abbrev pub invariant-put_clauses-loop-clause : goal.invariant-put_clauses-loop-clause
invariant-put_clauses-loop-clause l =
    let t = l.self.module.now.tables in
    map (spot_seen t) l.spots.items ++ clauses_spots l.self.function.0 (clauses_over t (drop l.clause-index l.clauses))
    ≡ map (spot_seen t) l.fn.spots.items ++ clauses_spots l.self.function.0 (clauses_over t l.clauses)
