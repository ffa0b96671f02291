-- Each part of a term has fewer nodes than the whole.
use Rattle.std.specs.Prelude.{◌+◌, ◌≤◌, List as Sequence, [], ◌∷◌}
use Rattle.std.proofs.Common.{arith}
use denote.Param.Weighed.{most}
use Rattle.pf_terms.specs.Value.{nodes, nodes_in}
use Rattle.pf_terms.specs.Term.{value_of, values_of, elements_of}
use Rattle.pf_terms.specs.declared.term.List.{List}
use Rattle.pf_terms.specs.declared.term.List.TheVariants.{Nil, Cons}
use Rattle.pf_terms.specs.declared.term.Term.{Term}
use Rattle.pf_terms.specs.declared.term.Term.TheVariants as term
use Rattle.pf_terms.specs.declared.term.Cell.TheDeep.{deep-Term, deep-List}

pub deep_le-list : (l : List) → deep-List l ≤ 1 + nodes_in (elements_of l)
deep_le-list Nil = omega arith
deep_le-list (Cons c) = omega arith

pub deep_le-nodes : (t : Term) → deep-Term t ≤ nodes (value_of t)
deep_le-nodes (term.Int n) = omega arith
deep_le-nodes (term.Atom a) = omega arith
deep_le-nodes (term.Ref r) = omega arith
deep_le-nodes (term.Pid p) = omega arith
deep_le-nodes (term.Tuple vs) = omega arith
deep_le-nodes (term.List l) = omega (arith, deep_le-list l)

pub most_le-nodes_in : (ts : Sequence Term) → most deep-Term ts ≤ nodes_in (values_of ts)
most_le-nodes_in [] = omega arith
most_le-nodes_in (t ∷ ts) = omega (arith, deep_le-nodes t, most_le-nodes_in ts)

pub nodes_pos : (t : Term) → 1 ≤ nodes (value_of t)
nodes_pos (term.Int n) = omega arith
nodes_pos (term.Atom a) = omega arith
nodes_pos (term.Ref r) = omega arith
nodes_pos (term.Pid p) = omega arith
nodes_pos (term.Tuple vs) = omega arith
nodes_pos (term.List l) = omega arith
