-- Two lists side by side.
use Rattle.std.proofs.Common.{◌≡◌, ℕ, zero, suc, ◌+◌, ◌<◌, List, [], ◌∷◌, ◌++◌, length, get_or, refl, subst, arith}
use Rattle.pf_clients.specs.Pairs.{EachTwo}

pub nothing_left : {X : Type 0} (xs : List X) → length xs ≡ 0 → xs ≡ []
nothing_left [] len = refl
nothing_left (x ∷ xs) len = absurd (omega (arith, len))

-- one more of both
pub two_more : {X Y : Type 0} (P : ℕ → X → Y → Type 0) (k : ℕ) (xs : List X) (ys : List Y) (x : X) (y : Y)
    → EachTwo P k xs ys → P (k + length xs) x y
    → EachTwo P k (xs ++ x ∷ []) (ys ++ y ∷ [])
two_more P k [] [] x y all one = (subst (λ (n : ℕ). P n x y) (omega arith) one, tt)
two_more P k (a ∷ xs) (b ∷ ys) x y all one = (
  all.0,
  two_more P (suc k) xs ys x y all.1 (subst (λ (n : ℕ). P n x y) (omega arith) one),
)
two_more P k [] (b ∷ ys) x y all one = absurd all
two_more P k (a ∷ xs) [] x y all one = absurd all

-- what is so at each place
pub two_by_place : {X : Type 0} (P : X → X → Type 0) (k : ℕ) (xs ys : List X) → length ys ≡ length xs
    → ((i : ℕ) (d : X) → i < length xs → P (get_or xs i d) (get_or ys i d)) → EachTwo (λ n. P) k xs ys
two_by_place P k [] [] len each = tt
two_by_place P k [] (y ∷ ys) len each = absurd (omega (arith, len))
two_by_place P k (x ∷ xs) [] len each = absurd (omega (arith, len))
two_by_place P k (x ∷ xs) (y ∷ ys) len each = (
  each 0 x (omega arith),
  two_by_place P (suc k) xs ys (omega (arith, len))
      (λ i d within. each (suc i) d (omega (arith, within))),
)
