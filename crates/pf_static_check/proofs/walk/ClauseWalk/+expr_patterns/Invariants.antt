use Rattle.std.proofs.Common.{◌+◌, ◌*◌, ◌≤◌, drop}
use Rattle.pf_syntax.specs.ExprPattern.{expr_pattern_depth, expr_patterns_depth}
use Rattle.pf_syntax.specs.SyntaxTree.{expr_pattern_at}
use Rattle.pf_syntax.specs.SyntaxTreeOver.{expr_pattern_over, expr_patterns_at}
use Rattle.pf_static_check.proofs.Passing.{ExprPatternsUnderway}
use Rattle.pf_static_check.proofs.walk.ClauseWalk.+expr_patterns.Given as goal

abbrev pub decreases-expr_pattern : goal.decreases-expr_pattern
decreases-expr_pattern l = 3 * expr_pattern_depth (expr_pattern_at l.syntax.now.node_table l.id.0) + 1

abbrev pub decreases-expr_pattern_node : goal.decreases-expr_pattern_node
decreases-expr_pattern_node l = 3 * expr_pattern_depth (expr_pattern_over l.syntax.now.node_table l.node.now)

abbrev pub decreases-expr_patterns : goal.decreases-expr_patterns
decreases-expr_patterns l = 3 * expr_patterns_depth (expr_patterns_at l.syntax.now.node_table l.parts.now) + 2

-- what was walked and what is left are the whole
abbrev pub invariant-expr_patterns-loop-part : goal.invariant-expr_patterns-loop-part
invariant-expr_patterns-loop-part l = record {
  underway : ExprPatternsUnderway l.fn.self l.self (expr_patterns_at l.syntax.node_table l.parts)
      (expr_patterns_at l.syntax.node_table (drop l.part-index l.parts));
  shallow : expr_patterns_depth (expr_patterns_at l.syntax.node_table (drop l.part-index l.parts)) ≤ expr_patterns_depth
      (expr_patterns_at l.syntax.node_table l.parts);
}
