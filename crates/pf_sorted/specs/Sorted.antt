-- Lists by rising key.
use Rattle.std.specs.Prelude.{◌≡◌, ℕ, zero, suc, ◌≤◌, ◌<◌, List, [], ◌∷◌}

-- each key is at least `low`, and above those before it
abbrev pub IsRising : {T : Type 0} → (T → ℕ) → (low : ℕ) → List T → Type 0
IsRising key low [] = Unit {0}
IsRising key low (x ∷ xs) = (low ≤ key x) × IsRising key (suc (key x)) xs

-- the key is at this index, after lower ones
abbrev pub IsThere : {T : Type 0} → (T → ℕ) → ℕ → List T → ℕ → Type 0
IsThere key b [] n = ⊥
IsThere key b (x ∷ xs) zero = key x ≡ b
IsThere key b (x ∷ xs) (suc n) = (key x < b) × IsThere key b xs n

-- the key isn't there, and would be at this index: after lower ones, before a higher one or at the end
abbrev pub IsGap : {T : Type 0} → (T → ℕ) → ℕ → List T → ℕ → Type 0
IsGap key b [] n = n ≡ zero
IsGap key b (x ∷ xs) zero = b < key x
IsGap key b (x ∷ xs) (suc n) = (key x < b) × IsGap key b xs n
