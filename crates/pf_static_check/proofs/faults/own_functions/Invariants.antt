use Rattle.std.proofs.Common.{take, drop}
use Rattle.std.specs.Prelude.{map}
use Rattle.pf_syntax.specs.SyntaxTreeOver.{heads_over}
use Rattle.pf_static_check.proofs.Defining.{Defined}
use Rattle.pf_static_check.proofs.faults.own_functions.Given as goal

-- those before are listed, and the faults of those that are left are still to be found
abbrev pub invariant-loop-function : goal.invariant-loop-function
invariant-loop-function l =
    Defined l.atoms l.own l.fn.first l.first (map (heads_over l.syntax.node_table)
    (take l.function-index l.function-items))
    (map (heads_over l.syntax.node_table) (drop l.function-index l.function-items))
    (map (heads_over l.syntax.node_table) l.function-items)
