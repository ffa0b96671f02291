-- Entries that are added one by one to what those before them made.
use Rattle.std.proofs.Common.{◌≡◌, List, [], ◌∷◌, ◌++◌, refl, sym, ap, ◌∙◌, subst}
use Rattle.std.specs.Prelude.{fold}
use Rattle.pf_syntax.specs.Within.{InTurn}

module _ {T X : Type 0} (is_there : T → X → Type 0) (step : T → X → T) where
  pub in_turn_push : (t : T) (xs : List X) (x : X) → InTurn is_there step t xs → is_there (fold step t xs) x
      → InTurn is_there step t (xs ++ x ∷ [])
  in_turn_push t [] x a h = (h, tt)
  in_turn_push t (y ∷ xs) x a h = (a.0, in_turn_push (step t y) xs x a.1 h)

  pub fold_push : (t : T) (xs : List X) (x : X) → fold step t (xs ++ x ∷ []) ≡ step (fold step t xs) x
  fold_push t [] x = refl
  fold_push t (y ∷ xs) x = fold_push (step t y) xs x

  -- what is added below all entries may as well be added above them
  pub fold_swap : (more : T → T) → ((t : T) (x : X) → is_there t x → step (more t) x ≡ more (step t x))
      → (t : T) (xs : List X) → InTurn is_there step t xs → fold step (more t) xs ≡ more (fold step t xs)
  fold_swap more swap t [] a = refl
  fold_swap more swap t (x ∷ xs) a = ap (λ u. fold step u xs) (swap t x a.0) ∙ fold_swap more swap (step t x) xs a.1

  pub in_turn_still : (more : T → T) → ((t : T) (x : X) → is_there t x → step (more t) x ≡ more (step t x))
      → ((t : T) (x : X) → is_there t x → is_there (more t) x) → (t : T) (xs : List X) → InTurn is_there step t xs
      → InTurn is_there step (more t) xs
  in_turn_still more swap still t [] a = tt
  in_turn_still more swap still t (x ∷ xs) a = (
    still t x a.0,
    subst (λ u. InTurn is_there step u xs) (sym (swap t x a.0))
        (in_turn_still more swap still (step t x) xs a.1),
  )
