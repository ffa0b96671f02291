use Rattle.std.proofs.Common.{◌≡◌, ◌≤◌, length}
use Rattle.pf_heap.specs.Marks.{Moves}
use Rattle.pf_heap.proofs.heap.Heap.moved.Given as goal

-- the cells before this one were moved
abbrev pub invariant-loop-at : goal.invariant-loop-at
invariant-loop-at l = record {
  count : length l.places.items ≡ l.at;
  moves : Moves l.self l.at l.marks l.places.items l.heap;
  shorter : length l.heap ≤ l.at;
}
