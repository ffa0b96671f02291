-- What a change at an index makes of a map.
use Rattle.std.proofs.Common.{◌≡◌, ℕ, zero, suc, ◌<◌, ◌≤◌, ◌==◌, Bool, true, false, nat_lt, if◌then◌else◌, List, []}
use Rattle.std.proofs.Common.{◌∷◌, Some, None}
use Rattle.std.proofs.Common.{Result, Ok, Err, MatchResult, is_ok, refl, sym, ap, ◌∙◌, arith, length, slice_index_or}
use Rattle.std.proofs.Common.{slice_set}
use Rattle.std.specs.Prelude.{insert, remove, is_some}
use Rattle.std.proofs.lemmas.Bool.Decides.{nat_tests}
use Rattle.pf_sorted.specs.Maps.{got, put, without}
use Rattle.pf_sorted.specs.Sorted.{IsRising, IsThere, IsGap}
use Rattle.pf_sorted.specs.Values.{IsValueAt, with_value}
use Rattle.pf_sorted.proofs.Indices.{eq_of, below_ne, above_ne, below_not, above_is, lt_from, le_from, lower}

abbrev pub Rises : {T : Type 0} → ℕ → List (ℕ × T) → Type 0
Rises low xs = IsRising (λ e. e.0) low xs

module _ {T : Type 0} where
  -- ---- keys that rise

  pub got_above : (b low : ℕ) (xs : List (ℕ × T)) → b < low → Rises low xs → got b xs ≡ None
  got_above b low [] l h = refl
  got_above b low (x ∷ xs) l h = let k = h.0 in let q = above_ne x.0 b (omega arith) in
      rw q (got_above b (suc x.0) xs (omega arith) h.1)

  without_above : (b low : ℕ) (xs : List (ℕ × T)) → b < low → Rises low xs → without b xs ≡ xs
  without_above b low [] l h = refl
  without_above b low (x ∷ xs) l h =
      let k = h.0 in let q = above_ne x.0 b (omega arith) in
      rw q (ap (λ r. x ∷ r) (without_above b (suc x.0) xs (omega arith) h.1))

  pub put_rises : (low b : ℕ) (v : T) (xs : List (ℕ × T)) → low ≤ b → Rises low xs → Rises low (put b v xs)
  put_rises low b v [] l h = (l, tt)
  put_rises low b v (x ∷ xs) l h = by (b == x.0) (nat_lt b x.0) refl refl (put_rises (suc x.0) b v xs)
    where
      by : (e t : Bool) → (b == x.0) ≡ e → nat_lt b x.0 ≡ t
          → (suc x.0 ≤ b → Rises (suc x.0) xs → Rises (suc x.0) (put b v xs))
          → Rises low (if e then (b, v) ∷ xs else if t then (b, v) ∷ x ∷ xs else x ∷ put b v xs)
      by true t q p rest = let e : b ≡ x.0 = same q in (l, rw e h.1)
        where
          same : (b == x.0) ≡ true → b ≡ x.0
          same m = grind (arith, nat_tests)
      by false true q p rest = let k : suc b ≤ x.0 = lt_from b x.0 p in (l, (k, h.1))
      by false false q p rest = let k : suc x.0 ≤ b = above (le_from b x.0 p) in (h.0, rest k h.1)
        where
          above : x.0 ≤ b → suc x.0 ≤ b
          above m = grind (arith, nat_tests)

  pub without_rises : (low b : ℕ) (xs : List (ℕ × T)) → Rises low xs → Rises low (without b xs)
  without_rises low b [] h = tt
  without_rises low b (x ∷ xs) h = by (b == x.0) (without_rises (suc x.0) b xs h.1)
    where
      by : (e : Bool) → Rises (suc x.0) (without b xs) → Rises low (if e then without b xs else x ∷ without b xs)
      by true r = let q = h.0 in lower (λ e. e.0) (suc x.0) low (without b xs) (omega arith) r
      by false r = (h.0, r)

  -- ---- where it is

  pub got_there : (b : ℕ) (xs : List (ℕ × T)) (i : ℕ) (d : ℕ × T) → IsThere (λ e. e.0) b xs i
      → got b xs ≡ Some (slice_index_or xs i d).1
  got_there b [] i d h = absurd h
  got_there b (x ∷ xs) zero d h = let q = eq_of x.0 b h in rw q refl
  got_there b (x ∷ xs) (suc i) d h = let q = below_ne x.0 b h.0 in rw q (got_there b xs i d h.1)

  pub key_there : (b : ℕ) (xs : List (ℕ × T)) (i : ℕ) (d : ℕ × T) → IsThere (λ e. e.0) b xs i
      → (slice_index_or xs i d).0 ≡ b
  key_there b [] i d h = absurd h
  key_there b (x ∷ xs) zero d h = h
  key_there b (x ∷ xs) (suc i) d h = key_there b xs i d h.1

  pub without_there : (b low : ℕ) (xs : List (ℕ × T)) (i : ℕ) → Rises low xs → IsThere (λ e. e.0) b xs i
      → remove xs i ≡ without b xs
  without_there b low [] i r h = absurd h
  without_there b low (x ∷ xs) zero r h =
      let q = eq_of x.0 b h in let l : b < suc x.0 = omega arith in rw q (sym (without_above b (suc x.0) xs l r.1))
  without_there b low (x ∷ xs) (suc i) r h =
      let q = below_ne x.0 b h.0 in rw q (ap (λ s. x ∷ s) (without_there b (suc x.0) xs i r.1 h.1))

  -- ---- where it would be

  pub got_gap : (b low : ℕ) (xs : List (ℕ × T)) (i : ℕ) → Rises low xs → IsGap (λ e. e.0) b xs i → got b xs ≡ None
  got_gap b low [] i r h = refl
  got_gap b low (x ∷ xs) zero r h = let q = above_ne x.0 b h in rw q (got_above b (suc x.0) xs (omega arith) r.1)
  got_gap b low (x ∷ xs) (suc i) r h = let q = below_ne x.0 b h.0 in rw q (got_gap b (suc x.0) xs i r.1 h.1)

  pub put_gap : (b : ℕ) (v : T) (xs : List (ℕ × T)) (i : ℕ) → IsGap (λ e. e.0) b xs i → insert xs i (b, v) ≡ put b v xs
  put_gap b v [] zero h = refl
  put_gap b v [] (suc i) h = refl
  put_gap b v (x ∷ xs) zero h = let q = above_ne x.0 b h in let p = above_is x.0 b h in rw (q, p) refl
  put_gap b v (x ∷ xs) (suc i) h =
      let q = below_ne x.0 b h.0 in let p = below_not x.0 b h.0 in rw (q, p) (ap (λ r. x ∷ r) (put_gap b v xs i h.1))

  pub without_gap : (b low : ℕ) (xs : List (ℕ × T)) (i : ℕ) → Rises low xs → IsGap (λ e. e.0) b xs i → without b xs ≡ xs
  without_gap b low [] i r h = refl
  without_gap b low (x ∷ xs) zero r h =
      let q = above_ne x.0 b h in rw q (ap (λ s. x ∷ s) (without_above b (suc x.0) xs (omega arith) r.1))
  without_gap b low (x ∷ xs) (suc i) r h =
      let q = below_ne x.0 b h.0 in rw q (ap (λ s. x ∷ s) (without_gap b (suc x.0) xs i r.1 h.1))

  -- ---- another value where it is

  set_value : (xs : List (ℕ × T)) (i : ℕ) (v : T) (d : ℕ × T)
      → slice_set xs i ((slice_index_or xs i d).0, v) ≡ with_value xs i v
  set_value [] i v d = refl
  set_value (x ∷ xs) zero v d = refl
  set_value (x ∷ xs) (suc i) v d = ap (λ r. x ∷ r) (set_value xs i v d)

  pub set_entry : (xs : List (ℕ × T)) (i : ℕ) (v : T) (d : ℕ × T) → d ≡ slice_index_or xs i d
      → slice_set xs i (d.0, v) ≡ with_value xs i v
  set_entry xs i v d e = ap (λ p. slice_set xs i (p.0, v)) e ∙ set_value xs i v d

  pub rises_value : (low : ℕ) (xs : List (ℕ × T)) (i : ℕ) (v : T) → Rises low xs → Rises low (with_value xs i v)
  rises_value low [] i v h = h
  rises_value low (x ∷ xs) zero v h = h
  rises_value low (x ∷ xs) (suc i) v h = (h.0, rises_value (suc x.0) xs i v h.1)

  pub value_at : (xs : List (ℕ × T)) (i : ℕ) (d : ℕ × T) → i < length xs → d ≡ slice_index_or xs i d
      → IsValueAt xs i d.1
  value_at [] i d l e = absurd (omega arith)
  value_at (x ∷ xs) zero d l e = ap (λ p. p.1) (sym e)
  value_at (x ∷ xs) (suc i) d l e = value_at xs i d (omega arith) e

  -- what a caller knows of a value at a key's index

  pub got_value : (b : ℕ) (xs : List (ℕ × T)) (i : ℕ) (v : T) → IsThere (λ e. e.0) b xs i → IsValueAt xs i v
      → got b xs ≡ Some v
  got_value b [] i v h e = absurd h
  got_value b (x ∷ xs) zero v h e = let q = eq_of x.0 b h in rw q (ap Some e)
  got_value b (x ∷ xs) (suc i) v h e = let q = below_ne x.0 b h.0 in rw q (got_value b xs i v h.1 e)

  pub put_value : (b : ℕ) (v : T) (xs : List (ℕ × T)) (i : ℕ) → IsThere (λ e. e.0) b xs i
      → with_value xs i v ≡ put b v xs
  put_value b v [] i h = absurd h
  put_value b v (x ∷ xs) zero h = let q = eq_of x.0 b h in rw q (ap (λ k. (k, v) ∷ xs) h)
  put_value b v (x ∷ xs) (suc i) h =
      let q = below_ne x.0 b h.0 in let p = below_not x.0 b h.0 in rw (q, p) (ap (λ r. x ∷ r) (put_value b v xs i h.1))

  pub without_value : (b low : ℕ) (v : T) (xs : List (ℕ × T)) (i : ℕ) → Rises low xs → IsThere (λ e. e.0) b xs i
      → without b (with_value xs i v) ≡ without b xs
  without_value b low v [] i r h = absurd h
  without_value b low v (x ∷ xs) zero r h = let q = eq_of x.0 b h in rw q refl
  without_value b low v (x ∷ xs) (suc i) r h =
      let q = below_ne x.0 b h.0 in rw q (ap (λ s. x ∷ s) (without_value b (suc x.0) v xs i r.1 h.1))

  -- ---- what a search says

  pub reported : (b : ℕ) (xs : List (ℕ × T)) (r : Result ℕ ℕ) → Rises 0 xs
      → MatchResult r (λ at. (at < length xs) × IsThere (λ e. e.0) b xs at)
      (λ at. (at ≤ length xs) × IsGap (λ e. e.0) b xs at)
      → is_ok r ≡ is_some (got b xs)
  reported b [] (Ok at) h m = absurd (omega (arith, m.0))
  reported b (x ∷ xs) (Ok at) h m = sym (ap is_some (got_there b (x ∷ xs) at x m.1))
  reported b xs (Err at) h m = sym (ap is_some (got_gap b 0 xs at h m.1))
