-- Names in one block of bytes, by where each ends.
use Rattle.std.specs.Prelude.{◌≡◌, ℕ, ◌≤◌, List, [], ◌∷◌, slice_range}

-- the names of which the first begins at `from` and each further one where the one before it ends
abbrev pub cut : List ℕ → ℕ → List ℕ → List (List ℕ)
cut bytes from [] = []
cut bytes from (end ∷ ends) = slice_range bytes from end ∷ cut bytes end ends

-- from `from` on the ends never fall, and the last is `size`
abbrev pub AscendsTo : ℕ → ℕ → List ℕ → Type 0
AscendsTo size from [] = from ≡ size
AscendsTo size from (end ∷ ends) = (from ≤ end) × AscendsTo size end ends
