-- A table of names over keys that hold bytes.
use Rattle.std.proofs.Common.{◌≡◌, ℕ, zero, suc, ◌+◌, ◌<◌, ◌≤◌, List, [], ◌∷◌, ◌++◌, length, Bool, true, false, Some}
use Rattle.std.proofs.Common.{None, refl, sym, ap, ◌∙◌, arith, get_or, inl, inr, ltb-false}
use Rattle.std.specs.Prelude.{map, option_map, slice_get, slice_index_or, if◌then◌else◌, cond, not, nat_lt, position}
use Rattle.std.specs.Prelude.{◌||◌, ◌⊎◌}
use Rattle.std.specs.List.{list_any, position_or_len, IsDistinct, AllByRecursion}
use Rattle.std.specs.Str.{bytes_eq}
use Rattle.std.proofs.lemmas.List.{map-append, length-map}
use Rattle.std.proofs.lemmas.List.Quantifiers.{position-Some}
use Rattle.std.proofs.lemmas.Option.{slice_get-map, slice_get_cases}
use Rattle.std.proofs.lemmas.Slice.Eq.{bytes_eq-Decides}
use Rattle.pf_terms.specs.Atoms.{with_name, name_of}
use Rattle.pf_terms.specs.Order.{Distinguishes}

module _ {X : Type 0} (p : X → Bool) where
  fails_too : (b c : Bool) (m n : ℕ) → suc m ≤ cond (not b) (1 + n) 0 → (m ≤ n → c ≡ false) → (b || c) ≡ false
  fails_too true c m n h rest = absurd (omega arith)
  fails_too false c m n h rest = rest (omega arith)

  fail_within : (xs : List X) → length xs ≤ position_or_len p xs → list_any p xs ≡ false
  fail_within [] h = refl
  fail_within (x ∷ xs) h = fails_too (p x) (list_any p xs) (length xs) (position_or_len p xs) h (fail_within xs)

  past : (i n : ℕ) (b : Bool) → b ≡ nat_lt i n → None ≡ cond b (Some i) None → n ≤ i
  past i n true e none = absurd (cc)
  past i n false e none = omega (arith, ltb-false i n (sym e))

  -- where no index is the first that passes, nothing passes
  none_passes : (xs : List X) → None ≡ position p xs → list_any p xs ≡ false
  none_passes xs none = fail_within xs (past (position_or_len p xs) (length xs)
      (nat_lt (position_or_len p xs) (length xs)) refl none)

module _ {K : Type 0} (name : K → List ℕ) where
  -- a test of names is a test of the keys that hold them
  pub list_any-map : (p : List ℕ → Bool) (ks : List K) → list_any p (map name ks) ≡ list_any (λ k. p (name k)) ks
  list_any-map p [] = refl
  list_any-map p (k ∷ ks) = ap (λ b. p (name k) || b) (list_any-map p ks)

  position_or_len-map : (p : List ℕ → Bool) (ks : List K)
      → position_or_len p (map name ks) ≡ position_or_len (λ k. p (name k)) ks
  position_or_len-map p [] = refl
  position_or_len-map p (k ∷ ks) = ap (λ n. cond (not (p (name k))) (1 + n) 0) (position_or_len-map p ks)

  -- so is a search for a name
  pub position-map : (p : List ℕ → Bool) (ks : List K) → position p (map name ks) ≡ position (λ k. p (name k)) ks
  position-map p ks = rw (position_or_len-map p ks, length-map ks name)

  within : (p : K → Bool) (ks : List K) (i : ℕ) → Some i ≡ position p ks → i < length ks
  within p [] i e = cc
  within p (k ∷ ks) i e = (position-Some p (k ∷ ks) i k (sym e)).0

  at_index : (text : List ℕ) (ks : List K) (i : ℕ) → Some i ≡ position (λ k. bytes_eq text (name k)) ks
      → ((k : K) × (i < length ks) × (slice_get ks i ≡ Some k) × (get_or ks i k ≡ k))
      ⊎ ((length ks ≤ i) × (slice_get ks i ≡ None))
      → slice_get (map name ks) i ≡ Some text
  at_index text ks i e (inl p) =
      let passes : bytes_eq text (name p.0) ≡ true = ap (λ k. bytes_eq text (name k)) (sym p.3)
      ∙ (position-Some (λ k. bytes_eq text (name k)) ks i p.0 (sym e)).1 in
      slice_get-map name ks i ∙ ap (option_map name) p.2 ∙ ap (λ n. Some n)
      (sym ((bytes_eq-Decides text (name p.0)).0 passes))
  at_index text ks i e (inr p) = let h = within (λ k. bytes_eq text (name k)) ks i e in absurd (omega (arith, p.0))

  -- the key at the first index that passes bears the name
  pub named : (text : List ℕ) (ks : List K) (i : ℕ) → Some i ≡ position (λ k. bytes_eq text (name k)) ks
      → slice_get (map name ks) i ≡ Some text
  named text ks i e = at_index text ks i e (slice_get_cases ks i).1

  -- where no key passes, none bears the name
  pub absent : (text : List ℕ) (ks : List K) → None ≡ position (λ k. bytes_eq text (name k)) ks
      → list_any (bytes_eq text) (map name ks) ≡ false
  absent text ks e = list_any-map (bytes_eq text) ks ∙ none_passes (λ k. bytes_eq text (name k)) ks e

  last_or_kept : (text : List ℕ) (ks : List K) (k : K) → name k ≡ text → (b : Bool)
      → map name (if b then ks else ks ++ k ∷ []) ≡ (if b then map name ks else map name ks ++ text ∷ [])
  last_or_kept text ks k e true = refl
  last_or_kept text ks k e false = map-append name ks (k ∷ []) ∙ ap (λ n. map name ks ++ n ∷ []) e

  -- a new name goes last
  pub with_name-map : (text : List ℕ) (ks : List K) (k : K) → name k ≡ text
      → map name (if list_any (λ q. bytes_eq (name k) (name q)) ks then ks else ks ++ k ∷ [])
      ≡ with_name (map name ks) text
  with_name-map text ks k e =
      ap (λ n. map name (if list_any (λ q. bytes_eq n (name q)) ks then ks else ks ++ k ∷ [])) e
      ∙ last_or_kept text ks k e (list_any (λ q. bytes_eq text (name q)) ks)
      ∙ ap (λ b. if b then map name ks else map name ks ++ text ∷ []) (sym (list_any-map (bytes_eq text) ks))

  -- the key with this name is at its index
  pub stored : (text : List ℕ) (ks : List K) (i : ℕ) (k : K) → slice_get ks i ≡ Some k → bytes_eq text (name k) ≡ true
      → slice_get (map name ks) i ≡ Some text
  stored text ks i k e b = slice_get-map name ks i ∙ ap (option_map name) e ∙ ap (λ n. Some n)
      (sym ((bytes_eq-Decides text (name k)).0 b))

  differs : (text : List ℕ) (ks : List K) (i : ℕ) → AllByRecursion (λ q. bytes_eq text (name q) ≡ false) ks
      → i < length ks → ¬ (text ≡ slice_index_or (map name ks) i [])
  differs text [] i h k e = absurd (omega arith)
  differs text (q ∷ ks) zero h k e =
      let t = (bytes_eq-Decides text (name q)).1 e in
      let f = h.0 in cc
  differs text (q ∷ ks) (suc i) h k e = differs text ks i h.1 (omega arith) e

  -- keys that differ bear names that differ
  pub distinguishes : (ks : List K) → IsDistinct (λ k q. bytes_eq (name k) (name q)) ks
      → Distinguishes (name_of (map name ks)) (length ks)
  unfolding IsDistinct
  distinguishes [] d i j h k e = absurd (omega arith)
  distinguishes (q ∷ ks) d zero zero h k e = refl
  distinguishes (q ∷ ks) d zero (suc j) h k e = absurd (differs (name q) ks j d.0 (omega arith) e)
  distinguishes (q ∷ ks) d (suc i) zero h k e = absurd (differs (name q) ks i d.0 (omega arith) (sym e))
  distinguishes (q ∷ ks) d (suc i) (suc j) h k e = ap suc (distinguishes ks d.1 i j (omega arith) (omega arith) e)

found_in : (names : List (List ℕ)) (text : List ℕ) (i : ℕ) → slice_get names i ≡ Some text
    → list_any (bytes_eq text) names ≡ true
found_in [] text i e = absurd (cc)
found_in (n ∷ ns) text zero e =
    let same : text ≡ n = cc in
    ap (λ b. b || list_any (bytes_eq text) ns) ((bytes_eq-Decides text n).1 same)
found_in (n ∷ ns) text (suc i) e = or_true (bytes_eq text n) (list_any (bytes_eq text) ns) (found_in ns text i e)
  where
    or_true : (a b : Bool) → b ≡ true → (a || b) ≡ true
    or_true true b h = refl
    or_true false b h = h

-- a name that is there changes nothing
pub present : (names : List (List ℕ)) (text : List ℕ) (i : ℕ) → slice_get names i ≡ Some text
    → with_name names text ≡ names
present names text i e = ap (λ b. if b then names else names ++ text ∷ []) (found_in names text i e)
