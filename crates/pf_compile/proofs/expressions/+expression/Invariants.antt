use Rattle.std.proofs.Common.{◌+◌, ◌*◌, length}
use Rattle.pf_syntax.specs.Over.{clauses_over, part_over, parts_over, tree_over}
use Rattle.pf_compile_patterns.specs.Scopes.{tables_in}
use Rattle.pf_compile.proofs.Sizes.{weight, weights, clauses_weight}
use Rattle.pf_compile.proofs.expressions.+expression.Given as goal

abbrev pub decreases-operand : goal.decreases-operand
decreases-operand l = 6 * weight (part_over (tables_in l.scope.now) l.part) + 5

abbrev pub decreases-node : goal.decreases-node
decreases-node l = 6 * weight (tree_over (tables_in l.scope.now) l.node.now) + 4

abbrev pub decreases-row : goal.decreases-row
decreases-row l = 6 * weights (parts_over (tables_in l.scope.now) l.parts.now) + 6

abbrev pub decreases-operate : goal.decreases-operate
decreases-operate l = 6 * weights (parts_over (tables_in l.scope.now) l.parts.now) + 7

abbrev pub decreases-call : goal.decreases-call
decreases-call l = 6 * weights (parts_over (tables_in l.scope.now) l.parts.now) + 8

abbrev pub decreases-decided : goal.decreases-decided
decreases-decided l = 6 * (weight (part_over (tables_in l.scope.now) l.left)
    + weight (part_over (tables_in l.scope.now) l.right)) + 8

abbrev pub decreases-matching : goal.decreases-matching
decreases-matching l = 6 * weight (part_over (tables_in l.scope.now) l.part) + 6

abbrev pub decreases-binding : goal.decreases-binding
decreases-binding l = 6 * (weight (part_over (tables_in l.scope.now) l.part)
    + weight (part_over (tables_in l.scope.now) l.rest) + length l.patterns.now) + 9

abbrev pub decreases-binds : goal.decreases-binds
decreases-binds l = 6 * (weight (part_over (tables_in l.scope.now) l.rest) + length l.patterns.now) + 6

abbrev pub decreases-case : goal.decreases-case
decreases-case l = 6 * (weight (part_over (tables_in l.scope.now) l.part)
    + clauses_weight (clauses_over (tables_in l.scope.now) l.clauses.now)) + 9

abbrev pub decreases-case_of_variable : goal.decreases-case_of_variable
decreases-case_of_variable l = 6 * clauses_weight (clauses_over (tables_in l.scope.now) l.clauses.now) + 7

abbrev pub decreases-choice : goal.decreases-choice
decreases-choice l = 6 * clauses_weight (clauses_over (tables_in l.scope.now) l.clauses.now) + 7

abbrev pub decreases-pick : goal.decreases-pick
decreases-pick l = 6 * clauses_weight (clauses_over (tables_in l.scope.now) l.clauses.now) + 6

abbrev pub decreases-receive : goal.decreases-receive
decreases-receive l = 6 * clauses_weight (clauses_over (tables_in l.scope.now) l.clauses.now) + 7
