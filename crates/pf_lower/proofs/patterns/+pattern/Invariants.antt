use Rattle.std.proofs.Common.{◌*◌, ◌+◌, take}
use Rattle.pf_syntax.specs.ExprPattern.{expr_pattern_depth, expr_patterns_depth}
use Rattle.pf_syntax.specs.SyntaxTree.{expr_pattern_at}
use Rattle.pf_syntax.specs.SyntaxTreeOver.{expr_patterns_at}
use Rattle.pf_lower.proofs.Threads.{SoFar}
use Rattle.pf_lower.proofs.ExprPatterns_mean.{next_expr_pattern, EachExprPattern}
use Rattle.pf_lower.proofs.patterns.+pattern.Given as goal

abbrev pub decreases-pattern : goal.decreases-pattern
decreases-pattern l = 2 * expr_pattern_depth (expr_pattern_at l.syntax.now.node_table l.id.0)

abbrev pub decreases-patterns : goal.decreases-patterns
decreases-patterns l = 2 * expr_patterns_depth (expr_patterns_at l.syntax.now.node_table l.ids.now) + 1

abbrev pub invariant-patterns-loop-id : goal.invariant-patterns-loop-id
invariant-patterns-loop-id l =
    SoFar (next_expr_pattern l.syntax.functions l.syntax.node_table)
    (EachExprPattern l.syntax.functions l.syntax.node_table) l.initial.module l.module l.initial.slots l.slots
    (take l.id-index l.ids) l.parts.items
