use Rattle.std.proofs.Common.{◌≡◌, drop, map}
use Rattle.std.specs.Prelude.{find}
use Rattle.pf_syntax.specs.Over.{part_over}
use Rattle.pf_positions.specs.Innermost.{takes_step}
use Rattle.pf_positions.proofs.innermost.first_node.Given as goal

-- the first among those that are left is the first of all
abbrev pub invariant-loop-operand : goal.invariant-loop-operand
invariant-loop-operand l =
    find takes_step (map (part_over l.module.tables) (drop l.operand-index l.operands)) ≡ find takes_step
    (map (part_over l.module.tables) l.operands)
