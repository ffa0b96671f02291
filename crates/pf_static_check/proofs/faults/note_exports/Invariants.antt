use Rattle.std.proofs.Common.{◌≡◌, drop}
use Rattle.std.specs.Prelude.{map, flat_map}
use Rattle.pf_syntax.specs.SyntaxTreeOver.{export_of}
use Rattle.pf_rules.specs.Static.{export_fault}
use Rattle.pf_static_check.specs.Earliest.{earliest, earliest_kept}
use Rattle.pf_static_check.proofs.faults.note_exports.Given as goal

-- the faults of those that are left are still to be found
abbrev pub invariant-loop-export : goal.invariant-loop-export
invariant-loop-export l =
    earliest (earliest_kept l.first) (flat_map (export_fault l.syntax.functions)
    (map export_of (drop l.export-index l.export-items))) ≡ earliest (earliest_kept l.fn.first)
    (flat_map (export_fault l.syntax.functions) (map export_of l.export-items))
