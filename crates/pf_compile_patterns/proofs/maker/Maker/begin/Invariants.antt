use Rattle.std.proofs.Common.{◌≡◌, take}
use Rattle.pf_compile_patterns.proofs.maker.Maker.begin.Given as goal

abbrev pub invariant-loop-slot : goal.invariant-loop-slot
invariant-loop-slot l = l.begun.items ≡ take l.slot-index l.slots
