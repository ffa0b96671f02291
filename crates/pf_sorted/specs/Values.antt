-- Values of a map at an index.
use Rattle.std.specs.Prelude.{◌≡◌, ℕ, zero, suc, List, [], ◌∷◌}

-- this value is at an index
abbrev pub IsValueAt : {T : Type 0} → List (ℕ × T) → ℕ → T → Type 0
IsValueAt [] i x = ⊥
IsValueAt (p ∷ ps) zero x = p.1 ≡ x
IsValueAt (p ∷ ps) (suc i) x = IsValueAt ps i x

-- with another value at an index
abbrev pub with_value : {T : Type 0} → List (ℕ × T) → ℕ → T → List (ℕ × T)
with_value [] i w = []
with_value (p ∷ ps) zero w = (p.0, w) ∷ ps
with_value (p ∷ ps) (suc i) w = p ∷ with_value ps i w
