use Rattle.std.proofs.Common.{take}
use Rattle.std.specs.Prelude.{map}
use Rattle.pf_syntax.specs.SyntaxTreeOver.{export_of}
use Rattle.pf_rules.specs.Listing.{Exports}
use Rattle.pf_lower.proofs.function_table.exports_of.Given as goal

-- those before are kept
abbrev pub invariant-loop-export : goal.invariant-loop-export
invariant-loop-export l = Exports l.exported (map export_of (take l.export-index l.export-items))
