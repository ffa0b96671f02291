-- Finite maps from numbers, and finite sets of numbers, as lists by rising key.
use Rattle.std.specs.Prelude.{ℕ, Bool, true, false, ◌==◌, nat_lt, if◌then◌else◌, List, [], ◌∷◌, Option, Some, None}

-- what is at a key
abbrev pub got : {T : Type 0} → ℕ → List (ℕ × T) → Option T
got k [] = None
got k (p ∷ ps) = if k == p.0 then Some p.1 else got k ps

-- the map with this at a key
abbrev pub put : {T : Type 0} → ℕ → T → List (ℕ × T) → List (ℕ × T)
put k x [] = (k, x) ∷ []
put k x (p ∷ ps) = if k == p.0 then (k, x) ∷ ps else (if nat_lt k p.0 then (k, x) ∷ p ∷ ps else p ∷ put k x ps)

-- the map with nothing at a key
abbrev pub without : {T : Type 0} → ℕ → List (ℕ × T) → List (ℕ × T)
without k [] = []
without k (p ∷ ps) = if k == p.0 then without k ps else p ∷ without k ps

-- whether a number is in a set
abbrev pub has : ℕ → List ℕ → Bool
has k [] = false
has k (x ∷ xs) = if k == x then true else has k xs

-- the set with a number
abbrev pub with_number : ℕ → List ℕ → List ℕ
with_number k [] = k ∷ []
with_number k (x ∷ xs) = if k == x then x ∷ xs else (if nat_lt k x then k ∷ x ∷ xs else x ∷ with_number k xs)

-- the set without a number
abbrev pub without_number : ℕ → List ℕ → List ℕ
without_number k [] = []
without_number k (x ∷ xs) = if k == x then without_number k xs else x ∷ without_number k xs
