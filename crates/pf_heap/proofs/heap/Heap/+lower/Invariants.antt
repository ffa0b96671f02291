use Rattle.std.proofs.Common.{◌≡◌, ◌≤◌, ◌+◌, ◌*◌, length}
use Rattle.std.specs.List.{All}
use Rattle.pf_terms.specs.Value.{nodes, nodes_in}
use Rattle.pf_terms.specs.Term.{elements_of, value_of, values_of}
use Rattle.pf_heap.specs.Heap.{word_values, IsWordOf, Keeps}
use Rattle.pf_heap.proofs.Runs.{joined}
use Rattle.pf_heap.proofs.heap.Heap.+lower.Given as goal

abbrev pub decreases-lower : goal.decreases-lower
decreases-lower l = 3 * nodes (value_of l.term.now)

abbrev pub decreases-lower_items : goal.decreases-lower_items
decreases-lower_items l = 3 * nodes_in (values_of l.terms.now) + 1

abbrev pub decreases-lower_elements : goal.decreases-lower_elements
decreases-lower_elements l = 3 * nodes_in (elements_of l.list.now) + 1

-- what was lowered, and what is left, are the whole, and what is left is no larger
abbrev pub invariant-lower_items-loop-first : goal.invariant-lower_items-loop-first
invariant-lower_items-loop-first l = record {
  whole : joined (word_values l.self l.words.items) (values_of l.rest) ≡ values_of l.fn.terms;
  nodes_fall : nodes_in (values_of l.rest) ≤ nodes_in (values_of l.fn.terms);
  words : All (IsWordOf l.self) l.words.items;
  keeps : Keeps l.fn.self l.self;
}

abbrev pub decreases-lower_items-loop-first : goal.decreases-lower_items-loop-first
decreases-lower_items-loop-first l = length l.rest

abbrev pub invariant-lower_elements-loop-first : goal.invariant-lower_elements-loop-first
invariant-lower_elements-loop-first l = record {
  whole : joined (word_values l.self l.words.items) (elements_of l.rest) ≡ elements_of l.fn.list;
  nodes_fall : nodes_in (elements_of l.rest) ≤ nodes_in (elements_of l.fn.list);
  words : All (IsWordOf l.self) l.words.items;
  keeps : Keeps l.fn.self l.self;
}

abbrev pub decreases-lower_elements-loop-first : goal.decreases-lower_elements-loop-first
decreases-lower_elements-loop-first l = nodes_in (elements_of l.rest)
