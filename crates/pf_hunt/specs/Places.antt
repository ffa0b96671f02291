-- Numbers in a list, and where each occurs.
use Rattle.std.specs.Prelude.{◌≡◌, ◌≢◌, ◌<◌, ◌≤◌, ℕ, zero, suc, List, map, length, slice_get, Option, Some, MatchOption}
use Rattle.std.specs.Prelude.{nat_eq}
use Rattle.std.specs.HashMap.{HashMap, get}
use Rattle.pf_hunt.specs.declared.places.NumberPlace.{NumberPlace}

-- this number occurs at no index from a to before b
abbrev pub IsAbsent : List ℕ → (n a b : ℕ) → Type 0
IsAbsent ns n a b = (k : ℕ) → a ≤ k → k < b → slice_get ns k ≢ Some n

-- where this number occurs last before index b, if it does
abbrev pub IsLastBefore : List ℕ → (n b : ℕ) → Option ℕ → Type 0
IsLastBefore ns n b o = MatchOption o (IsAbsent ns n zero b)
    (λ i. (i < b) × (slice_get ns i ≡ Some n) × IsAbsent ns n (suc i) b)

-- the numbers themselves
abbrev pub numbers_in : List NumberPlace → List ℕ
numbers_in ps = map (λ p. p.number) ps

module _ {S : Type 0} where
  -- the map leads from each number to where it occurs last, and each place to the one before of the same number
  pub record ArePlaced (ps : List NumberPlace) (lasts : HashMap ℕ ℕ S) : Type 0 where
    pub last : (n : ℕ) → IsLastBefore (numbers_in ps) n (length (numbers_in ps)) (get nat_eq lasts n)
    pub before : (i : ℕ) (p : NumberPlace) → slice_get ps i ≡ Some p → IsLastBefore (numbers_in ps) p.number i p.before
