-- A source out of which faults are taken.
use Rattle.std.specs.Prelude.{◌≡◌, ◌⊎◌, ◌==◌, ℕ, Bool, IsTrue, List, codes}
use Rattle.std.specs.List.{AllZip, list_any}

-- what is in place of a fault: blanks, or a function without patterns whose body is 0
abbrev pub is_filler : ℕ → Bool
is_filler b = list_any (λ c. b == c) (codes " (,_)->0")

-- a byte is as it was, or is a filler
abbrev pub IsKept : (old new : ℕ) → Type 0
IsKept b c = (c ≡ b) ⊎ IsTrue (is_filler c)

-- faults are taken out of a source: each of its bytes is as it was, or is a filler
abbrev pub IsFixed : (old new : List ℕ) → Type 0
IsFixed old new = AllZip IsKept old new
