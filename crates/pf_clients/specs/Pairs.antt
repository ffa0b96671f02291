-- Two lists side by side.
use Rattle.std.specs.Prelude.{⊤, ℕ, suc, List, [], ◌∷◌}

module _ {X Y : Type 0} (P : ℕ → X → Y → Type 0) where
  -- P holds of each two that have the same place, counted from k, and there are as many of both
  abbrev pub EachTwo : (k : ℕ) → List X → List Y → Type 0
  EachTwo k [] [] = ⊤
  EachTwo k (x ∷ xs) (y ∷ ys) = P k x y × EachTwo (suc k) xs ys
  EachTwo k [] (y ∷ ys) = ⊥
  EachTwo k (x ∷ xs) [] = ⊥
