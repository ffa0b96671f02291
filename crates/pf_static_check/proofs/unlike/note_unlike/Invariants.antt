use Rattle.std.proofs.Common.{◌≡◌, drop}
use Rattle.std.specs.Prelude.{map, flat_map}
use Rattle.pf_syntax.specs.SyntaxTreeOver.{heads_over}
use Rattle.pf_rules.specs.Static.{unlike_faults}
use Rattle.pf_static_check.specs.Earliest.{earliest, earliest_kept}
use Rattle.pf_static_check.proofs.unlike.note_unlike.Given as goal

-- the faults of those that are left are still to be found
abbrev pub invariant-loop-function : goal.invariant-loop-function
invariant-loop-function l =
    earliest (earliest_kept l.first) (flat_map unlike_faults
    (map (heads_over l.syntax.node_table) (drop l.function-index l.function-items)))
    ≡ earliest (earliest_kept l.fn.first)
    (flat_map unlike_faults (map (heads_over l.syntax.node_table) l.function-items))
