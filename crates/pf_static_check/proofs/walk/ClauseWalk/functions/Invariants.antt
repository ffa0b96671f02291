use Rattle.std.proofs.Common.{drop}
use Rattle.std.specs.Prelude.{map, flat_map}
use Rattle.pf_syntax.specs.SyntaxTreeOver.{heads_over}
use Rattle.pf_rules.specs.Static.{head_faults, names_of_module}
use Rattle.pf_static_check.proofs.Defining.{Onward}
use Rattle.pf_static_check.proofs.walk.ClauseWalk.functions.Given as goal

-- the faults of those that are left are still to be found
abbrev pub invariant-loop-function : goal.invariant-loop-function
invariant-loop-function l =
    Onward l.fn.self l.self (flat_map (flat_map (head_faults (names_of_module l.atoms l.syntax.functions)))
    (map (heads_over l.syntax.node_table) (drop l.function-index l.function-items)))
    (flat_map (flat_map (head_faults (names_of_module l.atoms l.syntax.functions)))
    (map (heads_over l.syntax.node_table) l.function-items))
