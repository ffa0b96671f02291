use Rattle.std.proofs.Common.{◌≡◌, false, take}
use Rattle.std.specs.List.{list_any}
use Rattle.std.specs.Str.{bytes_eq}
use Rattle.pf_terms.proofs.packed.PackedNames.find.Given as goal

-- no name so far is this one
abbrev pub invariant-loop-index : goal.invariant-loop-index
invariant-loop-index l = list_any (bytes_eq l.name) (take l.index l.self) ≡ false
