-- Messages by their indices and as a list: which of them no clause picks, and how many are tested.
use Rattle.std.proofs.Common.{◌≡◌, ℕ, zero, suc, ◌+◌, ◌-◌, ◌<◌, ◌≤◌, List, [], ◌∷◌, length, take, drop, refl, sym, ap}
use Rattle.std.proofs.Common.{◌∙◌, Some, None, inl, inr, arith}
use Rattle.std.specs.Prelude.{map, slice_get}
use Rattle.std.proofs.lemmas.Bool.{cases_lt}
use Rattle.pf_terms.specs.Term.{value_of}
use Rattle.pf_terms.specs.declared.term.Term.{Term}
use Rattle.pf_syntax.specs.Tree.{Tree, Clauses}
use Rattle.pf_model.specs.Module.{Module}
use Rattle.pf_model.specs.Contraction.{picked}
use Rattle.pf_model.specs.Receive.{FitsNone}
use Rattle.pf_inbox.specs.Tests.{more_tests, tested}

module _ (m : Module) (own : ℕ) (ks : Clauses) where
  -- no clause picks a message of these indices
  abbrev pub NoneIn : List Term → ℕ → ℕ → Type 0
  NoneIn xs from to = (k : ℕ) (x : Term) → from ≤ k → k < to → slice_get xs k ≡ Some x
      → picked m own ks (value_of x) ≡ None

  pub to_list : (xs : List Term) (n : ℕ) → NoneIn xs 0 n → FitsNone m own ks (take n (map value_of xs))
  to_list [] zero h = tt
  to_list [] (suc n) h = tt
  to_list (x ∷ xs) zero h = tt
  to_list (x ∷ xs) (suc n) h = (
    h 0 x (omega arith) (omega arith) refl,
    to_list xs n (λ k y l b s. h (suc k) y (omega arith) (omega (arith, b)) s),
  )

  pub to_indices : (xs : List Term) (n : ℕ) → FitsNone m own ks (take n (map value_of xs)) → NoneIn xs 0 n
  to_indices [] n h k x l b s = absurd cc
  to_indices (y ∷ xs) zero h k x l b s = absurd (omega (arith, b))
  to_indices (y ∷ xs) (suc n) h zero x l b s = let e : y ≡ x = cc in
      ap (λ z. picked m own ks (value_of z)) (sym e) ∙ h.0
  to_indices (y ∷ xs) (suc n) h (suc k) x l b s = to_indices xs n h.1 k x (omega arith) (omega (arith, b)) s

  -- the indices before the mark, and those from it on
  pub none_before : (xs : List Term) (mark to : ℕ) → NoneIn xs 0 mark → NoneIn xs mark to → NoneIn xs 0 to
  none_before xs mark to a b k x l below s = elim (cases_lt k mark) [ inl h ↦ a k x l h s | inr h ↦ b k x h below s ]

  -- ---- how many are tested

  count_here : (xs : List Term) (to : ℕ) (x : Term) (t : Tree) → NoneIn xs 0 to → slice_get xs to ≡ Some x
      → picked m own ks (value_of x) ≡ Some t → tested m own ks (map value_of xs) ≡ suc to
  count_here [] to x t h s p = absurd cc
  count_here (y ∷ xs) zero x t h s p =
      let e : y ≡ x = cc in ap (λ o. suc (more_tests o (tested m own ks (map value_of xs))))
      (ap (λ z. picked m own ks (value_of z)) e ∙ p)
  count_here (y ∷ xs) (suc to) x t h s p =
      ap (λ o. suc (more_tests o (tested m own ks (map value_of xs)))) (h 0 y (omega arith) (omega arith) refl)
      ∙ ap suc (count_here xs to x t (λ k z l b r. h (suc k) z (omega arith) (omega (arith, b)) r) s p)

  count_all : (xs : List Term) → NoneIn xs 0 (length xs) → tested m own ks (map value_of xs) ≡ length xs
  count_all [] h = refl
  count_all (y ∷ xs) h =
      ap (λ o. suc (more_tests o (tested m own ks (map value_of xs)))) (h 0 y (omega arith) (omega arith) refl)
      ∙ ap suc (count_all xs (λ k z l b r. h (suc k) z (omega arith) (omega (arith, b)) r))

  -- from the mark on, up to and with the one that is picked
  pub count_to : (xs : List Term) (mark to : ℕ) (x : Term) (t : Tree) → mark ≤ to → NoneIn xs mark to
      → slice_get xs to ≡ Some x → picked m own ks (value_of x) ≡ Some t
      → tested m own ks (drop mark (map value_of xs)) ≡ to - mark + 1
  count_to xs zero to x t w h s p = count_here xs to x t h s p ∙ omega arith
  count_to [] (suc mark) to x t w h s p = absurd cc
  count_to (y ∷ xs) (suc mark) zero x t w h s p = absurd (omega (arith, w))
  count_to (y ∷ xs) (suc mark) (suc to) x t w h s p =
      count_to xs mark to x t (omega (arith, w)) (λ k z l b r. h (suc k) z (omega (arith, l)) (omega (arith, b)) r) s
      p ∙ omega arith

  -- from the mark on, all
  pub count_rest : (xs : List Term) (mark : ℕ) → mark ≤ length xs → NoneIn xs mark (length xs)
      → tested m own ks (drop mark (map value_of xs)) ≡ length xs - mark
  count_rest xs zero w h = count_all xs h ∙ omega arith
  count_rest [] (suc mark) w h = absurd (omega (arith, w))
  count_rest (y ∷ xs) (suc mark) w h = count_rest xs mark (omega (arith, w))
      (λ k z l b r. h (suc k) z (omega (arith, l)) (omega (arith, b)) r) ∙ omega arith
