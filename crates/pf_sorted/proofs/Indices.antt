-- Lists by rising key: what a search finds in them, and what leaves them rising.
use Rattle.std.proofs.Common.{◌≡◌, ℕ, zero, suc, ◌<◌, ◌≤◌, ◌==◌, Bool, true, false, nat_lt, List, [], ◌∷◌}
use Rattle.std.proofs.Common.{Result, Ok, Err, MatchResult, refl, sym, arith, length, slice_index_or}
use Rattle.std.specs.List.{insert, remove}
use Rattle.std.specs.List.Sorted.{IsSearchInRange, IsBinarySearchResult, IsNonDecreasingBy}
use Rattle.std.specs.Ordering.{nat_cmp, ordering_index}
use Rattle.std.proofs.lemmas.Cmp.{ranked}
use Rattle.std.proofs.lemmas.Bool.Decides.{nat_tests}
use Rattle.pf_sorted.specs.Sorted.{IsRising, IsThere, IsGap}

-- ---- tests of numbers

pub eq_of : (a b : ℕ) → a ≡ b → (b == a) ≡ true
eq_of a b e = grind (arith, nat_tests)

pub ne_of : (a b : ℕ) → (a ≡ b → ⊥) → (b == a) ≡ false
ne_of a b e = by (b == a) refl
  where
    by : (t : Bool) → (b == a) ≡ t → t ≡ false
    by true q = absurd (e (grind (arith, nat_tests)))
    by false q = refl

pub below_ne : (a b : ℕ) → a < b → (b == a) ≡ false
below_ne a b l = grind (arith, nat_tests)

pub above_ne : (a b : ℕ) → b < a → (b == a) ≡ false
above_ne a b l = grind (arith, nat_tests)

pub below_not : (a b : ℕ) → a < b → nat_lt b a ≡ false
below_not a b l = grind (arith, nat_tests)

pub above_is : (a b : ℕ) → b < a → nat_lt b a ≡ true
above_is a b l = grind (arith, nat_tests)

pub lt_from : (a b : ℕ) → nat_lt a b ≡ true → a < b
lt_from a b e = grind (arith, nat_tests)

pub le_from : (a b : ℕ) → nat_lt a b ≡ false → b ≤ a
le_from a b e = grind (arith, nat_tests)

module _ {T : Type 0} (key : T → ℕ) where
  -- ---- searching

  key_from : (low : ℕ) (xs : List T) (i : ℕ) (d : T) → IsRising key low xs → i < length xs
      → low ≤ key (slice_index_or xs i d)
  key_from low [] i d h l = absurd (omega arith)
  key_from low (x ∷ xs) zero d h l = h.0
  key_from low (x ∷ xs) (suc i) d h l = omega (arith, key_from (suc (key x)) xs i d h.1 (omega arith), h.0)

  keys_rise : (low : ℕ) (xs : List T) (i j : ℕ) (d : T) → IsRising key low xs → i ≤ j → j < length xs
      → key (slice_index_or xs i d) ≤ key (slice_index_or xs j d)
  keys_rise low [] i j d h le l = absurd (omega arith)
  keys_rise low (x ∷ xs) zero zero d h le l = omega arith
  keys_rise low (x ∷ xs) zero (suc j) d h le l = omega (arith, key_from (suc (key x)) xs j d h.1 (omega arith))
  keys_rise low (x ∷ xs) (suc i) zero d h le l = absurd (omega arith)
  keys_rise low (x ∷ xs) (suc i) (suc j) d h le l = keys_rise (suc (key x)) xs i j d h.1 (omega arith) (omega arith)

  -- an index within that has the key is the key's
  pub there_from : (low b : ℕ) (xs : List T) (i : ℕ) (d : T) → IsRising key low xs → i < length xs
      → key (slice_index_or xs i d) ≡ b
      → IsThere key b xs i
  there_from low b [] i d h l e = absurd (omega arith)
  there_from low b (x ∷ xs) zero d h l e = e
  there_from low b (x ∷ xs) (suc i) d h l e =
      let q = key_from (suc (key x)) xs i d h.1 (omega arith) in
      (omega arith, there_from (suc (key x)) b xs i d h.1 (omega arith) e)

  -- an index between smaller keys and greater ones is the key's gap
  gap_from : (b : ℕ) (xs : List T) (i : ℕ) → i ≤ length xs
      → ((j : ℕ) (d : T) → j < i → key (slice_index_or xs j d) < b)
      → ((j : ℕ) (d : T) → i ≤ j → j < length xs → b < key (slice_index_or xs j d))
      → IsGap key b xs i
  gap_from b [] i l low high = omega arith
  gap_from b (x ∷ xs) zero l low high = high zero x (omega arith) (omega arith)
  gap_from b (x ∷ xs) (suc i) l low high = (
    low zero x (omega arith),
    gap_from b xs i (omega arith) (λ j d m. low (suc j) d (omega arith))
        (λ j d m n. high (suc j) d (omega arith) (omega arith)),
  )

  pub gap_within : (b : ℕ) (xs : List T) (i : ℕ) → IsGap key b xs i → i ≤ length xs
  gap_within b [] i g = omega arith
  gap_within b (x ∷ xs) zero g = omega arith
  gap_within b (x ∷ xs) (suc i) g = let q = gap_within b xs i g.1 in omega arith

  module _ (b : ℕ) (xs : List T) (rises : IsRising key 0 xs) where
    -- the comparisons with a key rise with the keys, as a binary search asks
    comparisons_rise : IsNonDecreasingBy (λ x. ordering_index (nat_cmp (key x) b)) xs
    comparisons_rise = λ i j d le l. let q = keys_rise 0 xs i j d rises le l in grind (arith, nat_tests)

    -- a binary search ends at the key, or at its gap
    pub searched : (r : Result ℕ ℕ) → IsSearchInRange r (length xs) → IsBinarySearchResult (λ x. nat_cmp (key x) b) xs r
        → MatchResult r (λ i. (i < length xs) × IsThere key b xs i) (λ i. (i ≤ length xs) × IsGap key b xs i)
    searched (Ok i) within equal = (within, by xs rises within equal)
      where
        by : (xs : List T) → IsRising key 0 xs → i < length xs → IsBinarySearchResult (λ x. nat_cmp (key x) b) xs (Ok i)
            → IsThere key b xs i
        by [] rises within equal = absurd (omega arith)
        by (x ∷ xs) rises within equal = there_from 0 b (x ∷ xs) i x rises within (ranked _ b _ (sym (equal x)))
    searched (Err i) within parted = (
      within,
      gap_from b xs i within (λ j d l. ranked _ b _ (sym ((parted comparisons_rise).0 j d (omega arith) l)))
          (λ j d le l. ranked _ b _ (sym ((parted comparisons_rise).1 j d le l))),
    )

  -- ---- changes leave the list rising

  pub rises_insert : (low : ℕ) (xs : List T) (i : ℕ) (x : T) → low ≤ key x → IsRising key low xs
      → IsGap key (key x) xs i
      → IsRising key low (insert xs i x)
  rises_insert low [] zero x l h g = (l, tt)
  rises_insert low [] (suc i) x l h g = (l, tt)
  rises_insert low (y ∷ xs) zero x l h g = (l, (omega arith, h.1))
  rises_insert low (y ∷ xs) (suc i) x l h g = let q = g.0 in
      (h.0, rises_insert (suc (key y)) xs i x (omega arith) h.1 g.1)

  pub lower : (low less : ℕ) (xs : List T) → less ≤ low → IsRising key low xs → IsRising key less xs
  lower low less [] l h = tt
  lower low less (x ∷ xs) l h = let q = h.0 in (omega arith, h.1)

  pub rises_remove : (low : ℕ) (xs : List T) (i : ℕ) → IsRising key low xs → IsRising key low (remove xs i)
  rises_remove low [] zero h = h
  rises_remove low [] (suc i) h = h
  rises_remove low (x ∷ xs) zero h = let q = h.0 in lower (suc (key x)) low xs (omega arith) h.1
  rises_remove low (x ∷ xs) (suc i) h = (h.0, rises_remove (suc (key x)) xs i h.1)
