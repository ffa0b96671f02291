use Rattle.std.proofs.Common.{◌≡◌, ◌++◌, take}
use Rattle.std.specs.Prelude.{map}
use Rattle.pf_syntax.specs.SyntaxTreeOver.{export_of}
use Rattle.pf_reader.proofs.export.add_exports.Given as goal

-- the entries so far were added
abbrev pub invariant-loop-entry : goal.invariant-loop-entry
invariant-loop-entry l = record {
  added : l.syntax.exports ≡ l.fn.syntax.exports ++ map export_of (take l.entry-index l.entries);
  name : l.syntax.name ≡ l.fn.syntax.name;
  functions : l.syntax.functions ≡ l.fn.syntax.functions;
}
