-- The value that a term stands for.
use Rattle.std.specs.Prelude.{List as Sequence, [], ◌∷◌}
use Rattle.pf_terms.specs.Value.{Value, Values, int, atom, ref, pid, tuple, list, none, more}
use Rattle.pf_terms.specs.declared.term.List.{List}
use Rattle.pf_terms.specs.declared.term.List.TheVariants.{Nil, Cons}
use Rattle.pf_terms.specs.declared.term.Term.{Term}
use Rattle.pf_terms.specs.declared.term.Term.TheVariants as term

-- the elements of a list
abbrev pub elements_of : List → Values
elements_of Nil = none
elements_of (Cons c) = c.value

-- the value of a term
abbrev pub value_of : Term → Value
value_of (term.Int n) = int n
value_of (term.Atom a) = atom a.0
value_of (term.Ref r) = ref r
value_of (term.Pid p) = pid p
value_of (term.Tuple vs) = tuple vs.value
value_of (term.List l) = list (elements_of l)

-- the values of several terms
abbrev pub values_of : Sequence Term → Values
values_of [] = none
values_of (t ∷ ts) = more (value_of t) (values_of ts)
