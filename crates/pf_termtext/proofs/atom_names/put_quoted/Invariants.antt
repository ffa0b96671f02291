use Rattle.std.proofs.Common.{◌≡◌, ◌++◌, take}
use Rattle.std.specs.Prelude.{flat_map}
use Rattle.pf_model.specs.TermText.{quoted_byte}
use Rattle.pf_termtext.proofs.atom_names.put_quoted.Given as goal

-- the bytes so far have gone out
abbrev pub invariant-loop-byte : goal.invariant-loop-byte
invariant-loop-byte l = l.out.items ≡ l.fn.out.items ++ flat_map quoted_byte (take l.byte-index l.name)
