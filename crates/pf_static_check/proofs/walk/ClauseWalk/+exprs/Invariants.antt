use Rattle.std.proofs.Common.{◌+◌, ◌*◌, ◌≤◌, drop}
use Rattle.std.specs.Prelude.{max}
use Rattle.pf_syntax.specs.Expr.{expr_depth, exprs_depth, condition_depth, branches_depth}
use Rattle.pf_syntax.specs.SyntaxTree.{expr_at}
use Rattle.pf_syntax.specs.SyntaxTreeOver.{alternatives_at, branches_over, condition_over, expr_over, exprs_at}
use Rattle.pf_syntax.specs.SyntaxTreeOver.{branch_depth}
use Rattle.pf_rules.specs.Static.{names_of_module}
use Rattle.pf_static_check.proofs.Passing.{ExprsUnderway, ConditionUnderway, BranchesUnderway}
use Rattle.pf_static_check.proofs.walk.ClauseWalk.+exprs.Given as goal

abbrev pub decreases-expr : goal.decreases-expr
decreases-expr l = 8 * expr_depth (expr_at l.syntax.now.node_table l.id.0) + 1

abbrev pub decreases-expr_node : goal.decreases-expr_node
decreases-expr_node l = 8 * expr_depth (expr_over l.syntax.now.node_table l.node.now)

abbrev pub decreases-pair : goal.decreases-pair
decreases-pair l = 8 * max (expr_depth (expr_at l.syntax.now.node_table l.left.0))
    (expr_depth (expr_at l.syntax.now.node_table l.right.0)) + 2

abbrev pub decreases-matching : goal.decreases-matching
decreases-matching l = 8 * expr_depth (expr_at l.syntax.now.node_table l.value.0) + 2

abbrev pub decreases-case : goal.decreases-case
decreases-case l = 8 * max (expr_depth (expr_at l.syntax.now.node_table l.part.0))
    (branches_depth (branches_over l.syntax.now.node_table l.branches.now)) + 7

abbrev pub decreases-exprs : goal.decreases-exprs
decreases-exprs l = 8 * exprs_depth (exprs_at l.syntax.now.node_table l.parts.now) + 2

abbrev pub decreases-tests : goal.decreases-tests
decreases-tests l = 8 * exprs_depth (exprs_at l.syntax.now.node_table l.tests.now) + 3

abbrev pub decreases-condition : goal.decreases-condition
decreases-condition l = 8 * condition_depth (condition_over l.syntax.now.node_table l.condition.now) + 4

abbrev pub decreases-branch : goal.decreases-branch
decreases-branch l = 8 * branch_depth l.syntax.now.node_table l.branch.now + 5

abbrev pub decreases-branches : goal.decreases-branches
decreases-branches l = 8 * branches_depth (branches_over l.syntax.now.node_table l.branches.now) + 6

-- what was walked and what is left are the whole
abbrev pub invariant-exprs-loop-part : goal.invariant-exprs-loop-part
invariant-exprs-loop-part l = record {
  underway : ExprsUnderway (names_of_module l.atoms l.syntax.functions) l.fn.self l.self
      (exprs_at l.syntax.node_table l.parts) (exprs_at l.syntax.node_table (drop l.part-index l.parts));
  shallow : exprs_depth (exprs_at l.syntax.node_table (drop l.part-index l.parts)) ≤ exprs_depth
      (exprs_at l.syntax.node_table l.parts);
}

abbrev pub invariant-condition-loop-alternative : goal.invariant-condition-loop-alternative
invariant-condition-loop-alternative l = record {
  underway : ConditionUnderway (names_of_module l.atoms l.syntax.functions) l.fn.self l.self
      (alternatives_at l.syntax.node_table l.alternative-items)
      (alternatives_at l.syntax.node_table (drop l.alternative-index l.alternative-items));
  shallow : condition_depth (alternatives_at l.syntax.node_table (drop l.alternative-index l.alternative-items))
      ≤ condition_depth (alternatives_at l.syntax.node_table l.alternative-items);
}

abbrev pub invariant-branches-loop-branch : goal.invariant-branches-loop-branch
invariant-branches-loop-branch l = record {
  underway : BranchesUnderway (names_of_module l.atoms l.syntax.functions) l.fn.self l.self
      (branches_over l.syntax.node_table l.branches)
      (branches_over l.syntax.node_table (drop l.branch-index l.branches));
  shallow : branches_depth (branches_over l.syntax.node_table (drop l.branch-index l.branches)) ≤ branches_depth
      (branches_over l.syntax.node_table l.branches);
}
