-- What a change at an index makes of a set of numbers.
use Rattle.std.proofs.Common.{◌≡◌, ℕ, zero, suc, ◌<◌, ◌≤◌, true, false, List, [], ◌∷◌, Result, Ok, Err, MatchResult}
use Rattle.std.proofs.Common.{is_ok, refl, sym, ap, arith, length}
use Rattle.std.specs.Prelude.{insert, remove}
use Rattle.pf_sorted.specs.Maps.{has, with_number, without_number}
use Rattle.pf_sorted.specs.Sorted.{IsRising, IsThere, IsGap}
use Rattle.pf_sorted.proofs.Indices.{eq_of, below_ne, above_ne, below_not, above_is}

abbrev pub Rises : ℕ → List ℕ → Type 0
Rises low xs = IsRising (λ x. x) low xs

-- ---- numbers that rise

has_above : (b low : ℕ) (xs : List ℕ) → b < low → Rises low xs → has b xs ≡ false
has_above b low [] l h = refl
has_above b low (x ∷ xs) l h = let k = h.0 in let q = above_ne x b (omega arith) in
    rw q (has_above b (suc x) xs (omega arith) h.1)

pub without_above : (b low : ℕ) (xs : List ℕ) → b < low → Rises low xs → without_number b xs ≡ xs
without_above b low [] l h = refl
without_above b low (x ∷ xs) l h =
    let k = h.0 in let q = above_ne x b (omega arith) in
    rw q (ap (λ r. x ∷ r) (without_above b (suc x) xs (omega arith) h.1))

pub with_front : (b low : ℕ) (xs : List ℕ) → b < low → Rises low xs → with_number b xs ≡ b ∷ xs
with_front b low [] l h = refl
with_front b low (x ∷ xs) l h =
    let k = h.0 in let q = above_ne x b (omega arith) in let p = above_is x b (omega arith) in rw (q, p) refl

-- ---- where it is

has_there : (b : ℕ) (xs : List ℕ) (i : ℕ) → IsThere (λ x. x) b xs i → has b xs ≡ true
has_there b [] i h = absurd h
has_there b (x ∷ xs) zero h = let q = eq_of x b h in rw q refl
has_there b (x ∷ xs) (suc i) h = let q = below_ne x b h.0 in rw q (has_there b xs i h.1)

pub with_there : (b : ℕ) (xs : List ℕ) (i : ℕ) → IsThere (λ x. x) b xs i → with_number b xs ≡ xs
with_there b [] i h = absurd h
with_there b (x ∷ xs) zero h = let q = eq_of x b h in rw q refl
with_there b (x ∷ xs) (suc i) h =
    let q = below_ne x b h.0 in let p = below_not x b h.0 in rw (q, p) (ap (λ r. x ∷ r) (with_there b xs i h.1))

pub without_there : (b low : ℕ) (xs : List ℕ) (i : ℕ) → Rises low xs → IsThere (λ x. x) b xs i
    → remove xs i ≡ without_number b xs
without_there b low [] i r h = absurd h
without_there b low (x ∷ xs) zero r h =
    let q = eq_of x b h in let l : b < suc x = omega arith in rw q (sym (without_above b (suc x) xs l r.1))
without_there b low (x ∷ xs) (suc i) r h =
    let q = below_ne x b h.0 in rw q (ap (λ s. x ∷ s) (without_there b (suc x) xs i r.1 h.1))

-- ---- where it would be

has_gap : (b low : ℕ) (xs : List ℕ) (i : ℕ) → Rises low xs → IsGap (λ x. x) b xs i → has b xs ≡ false
has_gap b low [] i r h = refl
has_gap b low (x ∷ xs) zero r h = let q = above_ne x b h in rw q (has_above b (suc x) xs (omega arith) r.1)
has_gap b low (x ∷ xs) (suc i) r h = let q = below_ne x b h.0 in rw q (has_gap b (suc x) xs i r.1 h.1)

pub with_gap : (b : ℕ) (xs : List ℕ) (i : ℕ) → IsGap (λ x. x) b xs i → insert xs i b ≡ with_number b xs
with_gap b [] zero h = refl
with_gap b [] (suc i) h = refl
with_gap b (x ∷ xs) zero h = let q = above_ne x b h in let p = above_is x b h in rw (q, p) refl
with_gap b (x ∷ xs) (suc i) h =
    let q = below_ne x b h.0 in let p = below_not x b h.0 in rw (q, p) (ap (λ r. x ∷ r) (with_gap b xs i h.1))

pub without_gap : (b low : ℕ) (xs : List ℕ) (i : ℕ) → Rises low xs → IsGap (λ x. x) b xs i → without_number b xs ≡ xs
without_gap b low [] i r h = refl
without_gap b low (x ∷ xs) zero r h =
    let q = above_ne x b h in rw q (ap (λ s. x ∷ s) (without_above b (suc x) xs (omega arith) r.1))
without_gap b low (x ∷ xs) (suc i) r h =
    let q = below_ne x b h.0 in rw q (ap (λ s. x ∷ s) (without_gap b (suc x) xs i r.1 h.1))

-- ---- what a search says

pub reported : (b : ℕ) (xs : List ℕ) (r : Result ℕ ℕ) → Rises 0 xs
    → MatchResult r (λ at. (at < length xs) × IsThere (λ x. x) b xs at)
    (λ at. (at ≤ length xs) × IsGap (λ x. x) b xs at)
    → is_ok r ≡ has b xs
reported b xs (Ok at) h m = sym (has_there b xs at m.1)
reported b xs (Err at) h m = sym (has_gap b 0 xs at h m.1)

pub was_there : (b : ℕ) (xs : List ℕ) (i : ℕ) → IsThere (λ x. x) b xs i → true ≡ has b xs
was_there b xs i h = sym (has_there b xs i h)

pub was_gap : (b : ℕ) (xs : List ℕ) (i : ℕ) → Rises 0 xs → IsGap (λ x. x) b xs i → false ≡ has b xs
was_gap b xs i r h = sym (has_gap b 0 xs i r h)
