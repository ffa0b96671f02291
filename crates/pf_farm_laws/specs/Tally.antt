-- Counting in lists.
use Rattle.std.specs.Prelude.{ℕ, ◌+◌, Bool, List, [], ◌∷◌, if◌then◌else◌}

abbrev pub one_if : Bool → ℕ
one_if b = if b then 1 else 0

-- how many of these pass a test
abbrev pub tally : {X : Type 0} → (X → Bool) → List X → ℕ
tally f [] = 0
tally f (x ∷ xs) = one_if (f x) + tally f xs

-- a number before some others, where it is to be there
abbrev pub put_if : Bool → ℕ → List ℕ → List ℕ
put_if b n ns = if b then n ∷ ns else ns
