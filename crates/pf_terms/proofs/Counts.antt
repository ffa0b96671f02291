-- Runs of elements, by how many there are.
use Rattle.std.proofs.Common.{◌≡◌, ℕ, List, [], ◌∷◌, length, arith, refl, sym, ap, ◌∙◌}
use Rattle.std.specs.declared.cmp.Ordering.{Ordering}
use Rattle.std.specs.declared.cmp.Ordering.TheVariants.{Less, Equal, Greater}
use Rattle.std.specs.Ordering.{nat_cmp, ordering_then}
use Rattle.pf_terms.specs.Value.{Values, count}
use Rattle.pf_terms.specs.Order.{compare_all}
use Rattle.pf_terms.specs.Term.{values_of}
use Rattle.pf_terms.specs.declared.term.Term.{Term}

pub length_count : (ts : List Term) → length ts ≡ count (values_of ts)
length_count [] = omega arith
length_count (t ∷ ts) = omega (arith, length_count ts)

pub sizes : (xs ys : List Term) (vs ws : Values) → values_of xs ≡ vs → values_of ys ≡ ws
    → nat_cmp (length xs) (length ys) ≡ nat_cmp (count vs) (count ws)
sizes xs ys vs ws e d =
    ap (λ n. nat_cmp n (length ys)) (length_count xs ∙ ap count e) ∙ ap (nat_cmp (count vs))
    (length_count ys ∙ ap count d)

decided_by : (o r : Ordering) → ¬ (o ≡ Equal) → o ≡ ordering_then o r
decided_by Less r h = refl
decided_by Equal r h = absurd (h refl)
decided_by Greater r h = refl

-- runs of different sizes are ordered by size
pub by_size : (name : ℕ → List ℕ) (xs ys : List Term) (vs ws : Values) (o : Ordering) → values_of xs ≡ vs
    → values_of ys ≡ ws → o ≡ nat_cmp (length xs) (length ys) → ¬ (o ≡ Equal)
    → o ≡ ordering_then (nat_cmp (count vs) (count ws)) (compare_all name vs ws)
by_size name xs ys vs ws o e d h n =
    decided_by o (compare_all name vs ws) n ∙ ap (λ p. ordering_then p (compare_all name vs ws))
    (h ∙ sizes xs ys vs ws e d)

-- runs of one size are ordered by their elements
pub by_elements : (name : ℕ → List ℕ) (xs ys : List Term) (vs ws : Values) (o r : Ordering) → values_of xs ≡ vs
    → values_of ys ≡ ws → o ≡ nat_cmp (length xs) (length ys) → o ≡ Equal
    → r ≡ compare_all name (values_of xs) (values_of ys)
    → r ≡ ordering_then (nat_cmp (count vs) (count ws)) (compare_all name vs ws)
by_elements name xs ys vs ws o r e d h n k =
    k ∙ ap (λ us. compare_all name us (values_of ys)) e ∙ ap (compare_all name vs) d
    ∙ ap (λ p. ordering_then p (compare_all name vs ws)) (sym n ∙ h ∙ sizes xs ys vs ws e d)
