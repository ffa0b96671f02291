use Rattle.std.proofs.Common.{◌≡◌, drop}
use Rattle.std.specs.Prelude.{map, flat_map}
use Rattle.pf_syntax.specs.SyntaxTree.{NodeTable}
use Rattle.pf_syntax.specs.SyntaxTreeOver.{head_over}
use Rattle.pf_rules.specs.Static.{unlike_fault}
use Rattle.pf_static_check.specs.Earliest.{earliest, earliest_kept}
use Rattle.pf_static_check.proofs.unlike.note_unlike_to.Given as goal

-- the faults of those that are left are still to be found
abbrev pub invariant-loop-other : goal.invariant-loop-other
invariant-loop-other l = (b : NodeTable) →
    earliest (earliest_kept l.first) (flat_map (unlike_fault (head_over b l.head))
    (map (head_over b) (drop l.other-index l.others))) ≡ earliest (earliest_kept l.fn.first)
    (flat_map (unlike_fault (head_over b l.head)) (map (head_over b) l.others))
