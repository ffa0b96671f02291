use Rattle.std.proofs.Common.{◌*◌, ◌+◌, take}
use Rattle.std.specs.Prelude.{max}
use Rattle.pf_syntax.specs.Expr.{expr_depth, exprs_depth, condition_depth, branches_depth}
use Rattle.pf_syntax.specs.SyntaxTree.{expr_at}
use Rattle.pf_syntax.specs.SyntaxTreeOver.{expr_over, exprs_at, condition_over, branches_over, branch_depth}
use Rattle.pf_lower.proofs.Threads.{SoFar}
use Rattle.pf_lower.proofs.Exprs_mean.{next_expr, EachExpr}
use Rattle.pf_lower.proofs.Bodies_mean.{next_element, EachElement, next_tests, EachTests, next_branch, EachBranch}
use Rattle.pf_lower.proofs.expressions.+expr.Given as goal

abbrev pub decreases-expression : goal.decreases-expression
decreases-expression l = 8 * expr_depth (expr_at l.syntax.now.node_table l.id.0) + 1

abbrev pub decreases-sequence : goal.decreases-sequence
decreases-sequence l = 8 * expr_depth (expr_over l.syntax.now.node_table l.node.now)

abbrev pub decreases-operation : goal.decreases-operation
decreases-operation l = 8 * expr_depth (expr_over l.syntax.now.node_table l.node.now)

abbrev pub decreases-construct : goal.decreases-construct
decreases-construct l = 8 * expr_depth (expr_over l.syntax.now.node_table l.node.now)

abbrev pub decreases-pair : goal.decreases-pair
decreases-pair l = 8 * max (expr_depth (expr_at l.syntax.now.node_table l.first.0))
    (expr_depth (expr_at l.syntax.now.node_table l.second.0)) + 2

abbrev pub decreases-expressions : goal.decreases-expressions
decreases-expressions l = 8 * exprs_depth (exprs_at l.syntax.now.node_table l.ids.now) + 2

abbrev pub decreases-element : goal.decreases-element
decreases-element l = 8 * expr_depth (expr_at l.syntax.now.node_table l.id.0) + 2

abbrev pub decreases-elements : goal.decreases-elements
decreases-elements l = 8 * exprs_depth (exprs_at l.syntax.now.node_table l.ids.now) + 3

abbrev pub decreases-body : goal.decreases-body
decreases-body l = 8 * exprs_depth (exprs_at l.syntax.now.node_table l.ids.now) + 4

abbrev pub decreases-guard : goal.decreases-guard
decreases-guard l = 8 * condition_depth (condition_over l.syntax.now.node_table l.condition.now) + 3

abbrev pub decreases-branch : goal.decreases-branch
decreases-branch l = 8 * branch_depth l.syntax.now.node_table l.arm.now + 5

abbrev pub decreases-branches : goal.decreases-branches
decreases-branches l = 8 * branches_depth (branches_over l.syntax.now.node_table l.arms.now) + 6

abbrev pub invariant-expressions-loop-id : goal.invariant-expressions-loop-id
invariant-expressions-loop-id l =
    SoFar (next_expr l.syntax.functions l.syntax.node_table) (EachExpr l.syntax.functions l.syntax.node_table)
    l.initial.module l.module l.initial.slots l.slots
    (take l.id-index l.ids) l.parts.items

abbrev pub invariant-elements-loop-id : goal.invariant-elements-loop-id
invariant-elements-loop-id l =
    SoFar (next_element l.syntax.functions l.syntax.node_table) (EachElement l.syntax.functions l.syntax.node_table)
    l.initial.module l.module l.initial.slots l.slots
    (take l.id-index l.ids) l.found.items

abbrev pub invariant-guard-loop-one : goal.invariant-guard-loop-one
invariant-guard-loop-one l =
    SoFar (next_tests l.syntax.functions l.syntax.node_table) (EachTests l.syntax.functions l.syntax.node_table)
    l.initial.module l.module l.initial.slots l.slots
    (take l.one-index l.condition.alternatives.items) l.alternatives.items

abbrev pub invariant-branches-loop-arm : goal.invariant-branches-loop-arm
invariant-branches-loop-arm l =
    SoFar (next_branch l.syntax.functions l.syntax.node_table) (EachBranch l.syntax.functions l.syntax.node_table)
    l.initial.module l.module l.initial.slots l.slots
    (take l.arm-index l.arms) l.clauses.items
