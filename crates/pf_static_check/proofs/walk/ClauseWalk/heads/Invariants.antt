use Rattle.std.proofs.Common.{drop}
use Rattle.std.specs.Prelude.{map, flat_map}
use Rattle.pf_syntax.specs.SyntaxTreeOver.{head_over}
use Rattle.pf_rules.specs.Static.{head_faults, names_of_module}
use Rattle.pf_static_check.proofs.Defining.{Onward}
use Rattle.pf_static_check.proofs.walk.ClauseWalk.heads.Given as goal

-- the faults of those that are left are still to be found
abbrev pub invariant-loop-head : goal.invariant-loop-head
invariant-loop-head l =
    Onward l.fn.self l.self (flat_map (head_faults (names_of_module l.atoms l.syntax.functions))
    (map (head_over l.syntax.node_table) (drop l.head-index l.heads)))
    (flat_map (head_faults (names_of_module l.atoms l.syntax.functions))
    (map (head_over l.syntax.node_table) l.heads))
