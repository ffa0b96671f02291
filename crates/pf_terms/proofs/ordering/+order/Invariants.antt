use Rattle.std.proofs.Common.{◌≡◌, ◌≤◌, ◌+◌, ◌*◌}
use Rattle.pf_terms.specs.Value.{nodes, nodes_in}
use Rattle.pf_terms.specs.Order.{compare_all}
use Rattle.pf_terms.specs.Term.{value_of, values_of, elements_of}
use Rattle.pf_terms.specs.Atoms.{name_of}
use Rattle.pf_terms.proofs.ordering.+order.Given as goal

abbrev pub decreases-order : goal.decreases-order
decreases-order l = 3 * nodes (value_of l.a.now)

abbrev pub decreases-order_items : goal.decreases-order_items
decreases-order_items l = 3 * nodes_in (values_of l.a.now) + 1

abbrev pub decreases-order_lists : goal.decreases-order_lists
decreases-order_lists l = 3 * nodes_in (elements_of l.a.now) + 2

abbrev pub decreases-order_elements : goal.decreases-order_elements
decreases-order_elements l = 3 * nodes_in l.a.now + 2

-- what is left compares as the whole does, and is no larger
abbrev pub invariant-order_lists-loop-first : goal.invariant-order_lists-loop-first
invariant-order_lists-loop-first l = record {
  order_is : compare_all (name_of l.atoms) (elements_of l.a) (elements_of l.b) ≡ compare_all (name_of l.atoms)
      (elements_of l.fn.a) (elements_of l.fn.b);
  nodes_fall : nodes_in (elements_of l.a) ≤ nodes_in (elements_of l.fn.a);
}
