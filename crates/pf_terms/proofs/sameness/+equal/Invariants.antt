use Rattle.std.proofs.Common.{◌≡◌, ◌≤◌, ◌+◌, ◌*◌}
use Rattle.pf_terms.specs.Value.{nodes, nodes_in, same_all}
use Rattle.pf_terms.specs.Term.{value_of, values_of, elements_of}
use Rattle.pf_terms.proofs.sameness.+equal.Given as goal

abbrev pub decreases-equal : goal.decreases-equal
decreases-equal l = 3 * nodes (value_of l.a.now)

abbrev pub decreases-equal_items : goal.decreases-equal_items
decreases-equal_items l = 3 * nodes_in (values_of l.a.now) + 1

abbrev pub decreases-equal_lists : goal.decreases-equal_lists
decreases-equal_lists l = 3 * nodes_in (elements_of l.a.now) + 2

abbrev pub decreases-equal_elements : goal.decreases-equal_elements
decreases-equal_elements l = 3 * nodes_in l.a.now + 2

-- what is left compares as the whole does, and is no larger
abbrev pub invariant-equal_lists-loop-first : goal.invariant-equal_lists-loop-first
invariant-equal_lists-loop-first l = record {
  same_is : same_all (elements_of l.a) (elements_of l.b) ≡ same_all (elements_of l.fn.a) (elements_of l.fn.b);
  nodes_fall : nodes_in (elements_of l.a) ≤ nodes_in (elements_of l.fn.a);
}
