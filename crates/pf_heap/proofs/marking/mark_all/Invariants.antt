use Rattle.std.proofs.Common.{◌≡◌, take}
use Rattle.pf_heap.specs.Marks.{with_marks}
use Rattle.pf_heap.proofs.marking.mark_all.Given as goal

abbrev pub invariant-loop-word : goal.invariant-loop-word
invariant-loop-word l = l.marks ≡ with_marks l.fn.marks (take l.word-index l.words)
