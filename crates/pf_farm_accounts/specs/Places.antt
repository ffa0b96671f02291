-- Places of entries, and lists that begin with others.
use Rattle.std.specs.Prelude.{ℕ, zero, suc, ◌+◌, ◌≤◌, ◌≡◌, List, [], ◌∷◌, ◌++◌, Option, Some, None, slice_get, All}

-- the weights of some places, added up
abbrev pub weigh : (ℕ → ℕ) → List ℕ → ℕ
weigh h [] = 0
weigh h (k ∷ ks) = h k + weigh h ks

-- the weights of all places below n, added up
abbrev pub weigh_below : (ℕ → ℕ) → ℕ → ℕ
weigh_below h zero = 0
weigh_below h (suc n) = weigh_below h n + h n

-- these are places below n, each at most once: however places are weighed, these weigh no more than all
abbrev pub AreBelow : List ℕ → ℕ → Type 0
AreBelow ks n = (h : ℕ → ℕ) → weigh h ks ≤ weigh_below h n

-- a list begins with another
abbrev pub StartsWith : {T : Type 0} → List T → List T → Type 0
StartsWith {T} xs ys = (rest : List T) × (xs ≡ ys ++ rest)

module _ {T : Type 0} where
  abbrev pub put_some : Option T → List T → List T
  put_some None xs = xs
  put_some (Some x) xs = x ∷ xs

  -- what is at some places of a list
  abbrev pub standing_at : List ℕ → List T → List T
  standing_at [] xs = []
  standing_at (k ∷ ks) xs = put_some (slice_get xs k) (standing_at ks xs)

  -- each of these is at some place of a list
  abbrev pub AreAmong : List T → List T → Type 0
  AreAmong xs ys = All (λ x. (k : ℕ) × (slice_get ys k ≡ Some x)) xs
