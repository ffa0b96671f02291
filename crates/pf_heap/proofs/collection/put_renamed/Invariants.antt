use Rattle.std.proofs.Common.{◌≡◌, take}
use Rattle.std.specs.Prelude.{map}
use Rattle.pf_heap.specs.Marks.{renamed}
use Rattle.pf_heap.proofs.collection.put_renamed.Given as goal

abbrev pub invariant-loop-word : goal.invariant-loop-word
invariant-loop-word l = l.out.items ≡ map (renamed l.places) (take l.word-index l.words)
