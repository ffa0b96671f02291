use Rattle.std.proofs.Common.{◌≡◌, take}
use Rattle.pf_terms.proofs.atom_numbers.AtomNumbers.of.Given as goal

-- those before are entered
abbrev pub invariant-loop-index : goal.invariant-loop-index
invariant-loop-index l = l.numbers ≡ take l.index l.names
