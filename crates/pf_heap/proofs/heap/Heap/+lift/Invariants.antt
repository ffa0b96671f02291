use Rattle.std.proofs.Common.{◌≡◌, ◌≤◌, ◌+◌, ◌*◌, length}
use Rattle.std.specs.List.{All}
use Rattle.pf_terms.specs.Value.{nodes, nodes_in}
use Rattle.pf_terms.proofs.Before.{values_before}
use Rattle.pf_heap.specs.Heap.{elements, word_value, word_values, IsList, IsWordOf}
use Rattle.pf_heap.proofs.heap.Heap.+lift.Given as goal

abbrev pub decreases-lift : goal.decreases-lift
decreases-lift l = 3 * nodes (word_value l.self.now l.word)

abbrev pub decreases-lift_tuple : goal.decreases-lift_tuple
decreases-lift_tuple l = 3 * nodes_in (word_values l.self.now l.words.now) + 1

abbrev pub decreases-lift_list : goal.decreases-lift_list
decreases-lift_list l = 3 * nodes_in (elements (word_value l.self.now l.word)) + 1

-- what was lifted, and what is left, are the whole, and what is left is no larger
abbrev pub invariant-lift_tuple-loop-first : goal.invariant-lift_tuple-loop-first
invariant-lift_tuple-loop-first l = record {
  whole : values_before l.items.items (word_values l.self l.rest) ≡ word_values l.self l.fn.words;
  nodes_fall : nodes_in (word_values l.self l.rest) ≤ nodes_in (word_values l.self l.fn.words);
  words : All (IsWordOf l.self) l.rest;
}

abbrev pub decreases-lift_tuple-loop-first : goal.decreases-lift_tuple-loop-first
decreases-lift_tuple-loop-first l = length l.rest

abbrev pub invariant-lift_list-cells : goal.invariant-lift_list-cells
invariant-lift_list-cells l = record {
  whole : values_before l.items.items (elements (word_value l.self l.rest)) ≡ elements (word_value l.self l.fn.word);
  nodes_fall : nodes_in (elements (word_value l.self l.rest)) ≤ nodes_in (elements (word_value l.self l.fn.word));
  word : IsWordOf l.self l.rest;
  list : IsList l.rest;
}

abbrev pub decreases-lift_list-cells : goal.decreases-lift_list-cells
decreases-lift_list-cells l = nodes_in (elements (word_value l.self l.rest))
