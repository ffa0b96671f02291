use Rattle.std.proofs.Common.{◌≡◌, ◌≤◌, ◌+◌, ◌*◌, ◌++◌, length}
use Rattle.pf_terms.specs.Value.{nodes, nodes_in}
use Rattle.pf_terms.specs.Term.{value_of, values_of, elements_of}
use Rattle.pf_terms.specs.Atoms.{name_of}
use Rattle.pf_model.specs.TermText.{rest_text}
use Rattle.pf_termtext.proofs.terms.+terms.Given as goal

abbrev pub decreases-put_term : goal.decreases-put_term
decreases-put_term l = 4 * nodes (value_of l.term.now)

abbrev pub decreases-put_tuple : goal.decreases-put_tuple
decreases-put_tuple l = 4 * nodes_in l.elements.now + 3

abbrev pub decreases-put_others : goal.decreases-put_others
decreases-put_others l = 4 * nodes_in (values_of l.others.now) + 2

abbrev pub decreases-put_list : goal.decreases-put_list
decreases-put_list l = 4 * nodes_in (elements_of l.elements.now) + 3

abbrev pub decreases-put_tail : goal.decreases-put_tail
decreases-put_tail l = 4 * nodes_in (elements_of l.tail.now) + 2

-- what was written and what is left make the text of the whole, and what is left is no larger
abbrev pub invariant-put_others-loop-first : goal.invariant-put_others-loop-first
invariant-put_others-loop-first l = record {
  text_is : l.out.items ++ rest_text (name_of l.atoms) (values_of l.rest) ≡ l.fn.out.items
      ++ rest_text (name_of l.atoms) (values_of l.fn.others);
  nodes_fall : nodes_in (values_of l.rest) ≤ nodes_in (values_of l.fn.others);
}

abbrev pub decreases-put_others-loop-first : goal.decreases-put_others-loop-first
decreases-put_others-loop-first l = length l.rest

abbrev pub invariant-put_tail-loop-first : goal.invariant-put_tail-loop-first
invariant-put_tail-loop-first l = record {
  text_is : l.out.items ++ rest_text (name_of l.atoms) (elements_of l.rest) ≡ l.fn.out.items
      ++ rest_text (name_of l.atoms) (elements_of l.fn.tail);
  nodes_fall : nodes_in (elements_of l.rest) ≤ nodes_in (elements_of l.fn.tail);
}

abbrev pub decreases-put_tail-loop-first : goal.decreases-put_tail-loop-first
decreases-put_tail-loop-first l = nodes_in (elements_of l.rest)
