use Rattle.std.proofs.Common.{◌≡◌, ◌≤◌, ◌+◌, ◌*◌, length}
use Rattle.pf_terms.specs.Value.{nodes, nodes_in}
use Rattle.pf_terms.specs.Term.{value_of, values_of, elements_of}
use Rattle.pf_hunt.specs.Hashes.{values_hash}
use Rattle.pf_hunt.proofs.hash.+hashing.Given as goal

abbrev pub decreases-with_term : goal.decreases-with_term
decreases-with_term l = 4 * nodes (value_of l.term.now)

abbrev pub decreases-with_elements : goal.decreases-with_elements
decreases-with_elements l = 4 * nodes_in (values_of l.elements.now) + 2

abbrev pub decreases-with_list : goal.decreases-with_list
decreases-with_list l = 4 * nodes_in (elements_of l.list.now) + 2

-- the hash with what is left is that of the whole, and what is left is no larger
abbrev pub invariant-with_elements-loop-first : goal.invariant-with_elements-loop-first
invariant-with_elements-loop-first l = record {
  hash_is : values_hash l.hash (values_of l.rest) ≡ values_hash l.fn.hash (values_of l.fn.elements);
  nodes_fall : nodes_in (values_of l.rest) ≤ nodes_in (values_of l.fn.elements);
}

abbrev pub decreases-with_elements-loop-first : goal.decreases-with_elements-loop-first
decreases-with_elements-loop-first l = length l.rest

abbrev pub invariant-with_list-loop-first : goal.invariant-with_list-loop-first
invariant-with_list-loop-first l = record {
  hash_is : values_hash l.hash (elements_of l.rest) ≡ values_hash l.fn.hash (elements_of l.fn.list);
  nodes_fall : nodes_in (elements_of l.rest) ≤ nodes_in (elements_of l.fn.list);
}

abbrev pub decreases-with_list-loop-first : goal.decreases-with_list-loop-first
decreases-with_list-loop-first l = nodes_in (elements_of l.rest)
