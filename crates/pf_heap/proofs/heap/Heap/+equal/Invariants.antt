use Rattle.std.proofs.Common.{◌≡◌, ◌≤◌, ◌+◌, ◌*◌, length}
use Rattle.std.specs.List.{All}
use Rattle.pf_terms.specs.Value.{nodes, nodes_in, same_all}
use Rattle.pf_heap.specs.Heap.{elements, word_value, word_values, IsList, IsWordOf}
use Rattle.pf_heap.proofs.heap.Heap.+equal.Given as goal

abbrev pub decreases-equal : goal.decreases-equal
decreases-equal l = 3 * nodes (word_value l.self.now l.first)

abbrev pub decreases-equal_items : goal.decreases-equal_items
decreases-equal_items l = 3 * nodes_in (word_values l.self.now l.first.now) + 1

abbrev pub decreases-equal_lists : goal.decreases-equal_lists
decreases-equal_lists l = 3 * nodes_in (elements (word_value l.self.now l.first)) + 1

-- what is left compares as the whole does, and is no larger
abbrev pub invariant-equal_lists-cells : goal.invariant-equal_lists-cells
invariant-equal_lists-cells l = record {
  same_is : same_all (elements (word_value l.self l.a)) (elements (word_value l.self l.b))
      ≡ same_all (elements (word_value l.self l.fn.first)) (elements (word_value l.self l.fn.second));
  nodes_fall : nodes_in (elements (word_value l.self l.a)) ≤ nodes_in (elements (word_value l.self l.fn.first));
  first : IsWordOf l.self l.a × IsList l.a;
  second : IsWordOf l.self l.b × IsList l.b;
}

abbrev pub decreases-equal_lists-cells : goal.decreases-equal_lists-cells
decreases-equal_lists-cells l = nodes_in (elements (word_value l.self l.a))

abbrev pub invariant-equal_items-items : goal.invariant-equal_items-items
invariant-equal_items-items l = record {
  same_is : same_all (word_values l.self l.xs) (word_values l.self l.ys) ≡ same_all (word_values l.self l.fn.first)
      (word_values l.self l.fn.second);
  nodes_fall : nodes_in (word_values l.self l.xs) ≤ nodes_in (word_values l.self l.fn.first);
  first : All (IsWordOf l.self) l.xs;
  second : All (IsWordOf l.self) l.ys;
}

abbrev pub decreases-equal_items-items : goal.decreases-equal_items-items
decreases-equal_items-items l = length l.xs
