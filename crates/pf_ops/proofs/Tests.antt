-- The tests of a guard, as a loop goes through them.
use Rattle.std.proofs.Common.{◌≡◌, ℕ, zero, suc, ◌+◌, ◌<◌, ◌≤◌, List, [], ◌∷◌, ◌++◌, length, drop, drop-cons, add-one}
use Rattle.std.proofs.Common.{Option, Some, None, option_map, refl, sym, ap, ◌∙◌, arith}
use Rattle.std.specs.Prelude.{slice_index_or, option_and_then}
use Rattle.pf_terms.specs.Value.{Value, Values, more}
use Rattle.pf_terms.specs.Term.{value_of, values_of}
use Rattle.pf_terms.specs.declared.term.Term.{Term}
use Rattle.pf_syntax.specs.Tree.{tree_size, size_in}
use Rattle.pf_syntax.specs.Module.{Tables}
use Rattle.pf_syntax.specs.Over.{part_over, parts_over}
use Rattle.pf_syntax.specs.declared.node.Operand.{Operand}
use Rattle.pf_patterns.specs.Fit.{ValueScope}
use Rattle.pf_patterns.specs.Substitution.{sub, sub_trees}
use Rattle.pf_ops.specs.Operations.{values_before}
use Rattle.pf_ops.specs.Guards.{worth, all_worth}
use Rattle.pf_ops.proofs.Joined.{before_push, before_none}

-- an operand is smaller than operands of which it is one
pub part_below : (t : Tables) (ps : List Operand) (i : ℕ) (d : Operand) → i < length ps
    → tree_size (part_over t (slice_index_or ps i d)) + 1 ≤ size_in (parts_over t ps)
part_below t [] i d h = absurd (omega arith)
part_below t (p ∷ ps) zero d h = omega arith
part_below t (p ∷ ps) (suc i) d h = omega (arith, part_below t ps i d (omega arith))

-- what is left at an index begins with the item there
left_at : {A : Type 0} (xs : List A) (i : ℕ) (d : A) → i < length xs
    → drop i xs ≡ slice_index_or xs i d ∷ drop (i + 1) xs
left_at xs i d h = rw (add-one, drop-cons xs i d)

none_left : {A : Type 0} (xs : List A) (i : ℕ) → length xs ≤ i → drop i xs ≡ []
none_left [] zero h = refl
none_left [] (suc i) h = refl
none_left (x ∷ xs) zero h = absurd (omega arith)
none_left (x ∷ xs) (suc i) h = none_left xs i (omega arith)

module _ (name : ℕ → List ℕ) (own : ℕ) (e : ValueScope) (t : Tables) where
  abbrev worth_at : Operand → Option Value
  worth_at p = worth name own (sub e (part_over t p))

  abbrev worths : List Operand → Option Values
  worths ps = all_worth name own (sub_trees e (parts_over t ps))

  -- one more value
  pushed : (ts us : List Term) (u : Term) (o : Option Values) → us ≡ ts ++ u ∷ []
      → option_map (values_before (values_of us)) o ≡ option_map (values_before (values_of ts))
      (option_and_then (λ vs. Some (more (value_of u) vs)) o)
  pushed ts us u None e = refl
  pushed ts us u (Some vs) e = ap (λ l. Some (values_before (values_of l) vs)) e ∙ ap (λ vs. Some vs)
      (before_push ts u vs)

  -- the values so far, before those of what is left, stay the values of all
  pub worths_next : (ps : List Operand) (i : ℕ) (d : Operand) (ts us : List Term) (u : Term) (all : Option Values)
      → i < length ps → us ≡ ts ++ u ∷ [] → Some (value_of u) ≡ worth_at (slice_index_or ps i d)
      → option_map (values_before (values_of ts)) (worths (drop i ps)) ≡ all
      → option_map (values_before (values_of us)) (worths (drop (i + 1) ps)) ≡ all
  worths_next ps i d ts us u all h g w k =
      pushed ts us u (worths (drop (i + 1) ps)) g
      ∙ ap (λ o. option_map (values_before (values_of ts))
      (option_and_then (λ v. option_and_then (λ vs. Some (more v vs)) (worths (drop (i + 1) ps))) o)) w
      ∙ ap (λ l. option_map (values_before (values_of ts)) (worths l)) (sym (left_at ps i d h)) ∙ k

  -- no test is left
  pub worths_end : (ps : List Operand) (i : ℕ) (ts : List Term) (all : Option Values) → length ps ≤ i
      → option_map (values_before (values_of ts)) (worths (drop i ps)) ≡ all → Some (values_of ts) ≡ all
  worths_end ps i ts all h k =
      ap (λ vs. Some vs) (sym (before_none (values_of ts)))
      ∙ ap (λ l. option_map (values_before (values_of ts)) (worths l)) (sym (none_left ps i h)) ∙ k
