use Rattle.std.proofs.Common.{◌≡◌, ◌≤◌, length}
use Rattle.pf_heap.specs.Marks.{IsClosedFrom, IsMarkedMore}
use Rattle.pf_heap.proofs.heap.Heap.mark_reached.Given as goal

abbrev pub invariant-loop-left : goal.invariant-loop-left
invariant-loop-left l = record {
  within : l.left ≤ length l.marks;
  closed : IsClosedFrom l.self l.left l.marks;
  more : IsMarkedMore l.fn.marks l.marks;
}

abbrev pub decreases-loop-left : goal.decreases-loop-left
decreases-loop-left l = l.left
