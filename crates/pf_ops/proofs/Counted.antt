-- Elements of a list or a tuple, counted and by number.
use Rattle.std.proofs.Common.{◌≡◌, ℕ, zero, suc, ◌≤◌, List, [], ◌∷◌, length, Option, Some, None, Ok, Err, ℤ, pos}
use Rattle.std.proofs.Common.{negsuc, ◌<ℤ◌, w64, to_z, refl, sym, ap, ◌∙◌, arith}
use Rattle.std.specs.Prelude.{slice_get, Result}
use Rattle.std.proofs.lemmas.Int.{ints, to_z_pos}
use Rattle.pf_terms.specs.declared.limits.TheConstants.{MOST_NODES}
use Rattle.pf_terms.specs.Value.{Value, Values, int, atom, ref, pid, tuple, list, none, more, count, nodes, nodes_in}
use Rattle.pf_terms.specs.Fixed.{badarg}
use Rattle.pf_terms.specs.Term.{value_of, values_of}
use Rattle.pf_terms.specs.declared.term.Term.{Term}
use Rattle.pf_terms.proofs.Counts.{length_count}
use Rattle.pf_syntax.specs.declared.operator.Builtin.{Builtin}
use Rattle.pf_ops.specs.Operations.{element_at, element_of, computed}

nodes_pos : (v : Value) → 1 ≤ nodes v
nodes_pos (int z) = omega arith
nodes_pos (atom a) = omega arith
nodes_pos (ref r) = omega arith
nodes_pos (pid p) = omega arith
nodes_pos (tuple vs) = omega arith
nodes_pos (list vs) = omega arith

pub count_le : (vs : Values) → count vs ≤ nodes_in vs
count_le none = omega arith
count_le (more v vs) = omega (arith, nodes_pos v, count_le vs)

-- how many elements a tuple has, as 64 bits hold it
pub size_is : (ts : List Term) (vs : Values) → values_of ts ≡ vs → nodes (tuple vs) ≤ MOST_NODES
    → to_z w64 (length ts) ≡ pos (count vs)
size_is ts vs e h =
    let n : length ts ≡ count vs = length_count ts ∙ ap count e in
    ap (to_z w64) n ∙ to_z_pos w64 (count vs) (omega (arith, count_le vs))

-- no element has a number below 1
pub before_first : (vs : Values) (z : ℤ) → z <ℤ pos 1 → Err badarg ≡ element_of (int z) (tuple vs)
before_first none (pos zero) h = refl
before_first (more v vs) (pos zero) h = refl
before_first vs (pos (suc n)) h = absurd (omega (arith, ints))
before_first vs (negsuc n) h = refl

-- an item as an answer
abbrev pub item_or : Option Term → Result Value Value
item_or None = Err badarg
item_or (Some t) = Ok (value_of t)

at_number : (ts : List Term) (i : ℕ) → element_at (suc i) (values_of ts) ≡ item_or (slice_get ts i)
at_number [] i = refl
at_number (u ∷ ts) zero = refl
at_number (u ∷ ts) (suc i) = at_number ts i

-- the element of a number is the item at 1 less
pub item_is : (ts : List Term) (z : ℤ) (i : ℕ) (o : Option Term) → pos (suc i) ≡ z → o ≡ slice_get ts i
    → item_or o ≡ element_of (int z) (tuple (values_of ts))
item_is ts z i o e h = ap item_or h ∙ sym (at_number ts i) ∙ ap (λ y. element_of (int y) (tuple (values_of ts))) e

-- no built-in function that only looks at its arguments has three
none_of_three : (own : ℕ) (b : Builtin) (u v w : Value) (vs : Values)
    → None ≡ computed own b (more u (more v (more w vs)))
none_of_three own b u v w vs = grind arith

pub past_two : (own : ℕ) (b : Builtin) (ts : List Term) → 3 ≤ length ts → None ≡ computed own b (values_of ts)
past_two own b [] h = absurd (omega arith)
past_two own b (t ∷ []) h = absurd (omega arith)
past_two own b (t ∷ u ∷ []) h = absurd (omega arith)
past_two own b (t ∷ u ∷ v ∷ ts) h = none_of_three own b (value_of t) (value_of u) (value_of v) (values_of ts)
