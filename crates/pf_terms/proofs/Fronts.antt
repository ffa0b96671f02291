-- A list of names that begins with fixed ones.
use Rattle.std.proofs.Common.{◌≡◌, ℕ, zero, suc, ◌+◌, ◌-◌, ◌<◌, ◌≤◌, ◌^◌, List, [], ◌∷◌, ◌++◌, length, Bool, true}
use Rattle.std.proofs.Common.{false, Some, refl, sym, ap, ◌∙◌, arith, inl, inr, append_assoc, length-append}
use Rattle.std.specs.Prelude.{slice_get, if◌then◌else◌, ◌||◌, ◌⊎◌}
use Rattle.std.specs.List.{list_any}
use Rattle.std.specs.Str.{bytes_eq}
use Rattle.std.proofs.lemmas.List.{map-id, get_or_append_left, get_or-append_right}
use Rattle.std.proofs.lemmas.List.Folds.{list_any-append, list_any_at}
use Rattle.std.proofs.lemmas.Slice.Eq.{bytes_eq-Decides}
use Rattle.std.proofs.lemmas.Bool.{false≢true, cases_lt, or_parts}
use Rattle.std.specs.Set.{distinct_count}
use Rattle.std.proofs.lemmas.Cmp.{nat_list_eq_equiv}
use Rattle.std.proofs.lemmas.Map.Made.{IsDistinct-from_count}
use Rattle.pf_terms.proofs.Names.{distinguishes}
use Rattle.pf_terms.specs.Atoms.{with_name, name_of, fixed_names}
use Rattle.pf_terms.specs.Order.{Distinguishes}
use Rattle.pf_terms.specs.Numbers.{HasNumbers}

-- what is in the front is there in the whole
pub get-front : {X : Type 0} (fs xs : List X) (i : ℕ) (x : X) → slice_get fs i ≡ Some x
    → slice_get (fs ++ xs) i ≡ Some x
get-front [] xs i x e = absurd (cc)
get-front (f ∷ fs) xs zero x e = e
get-front (f ∷ fs) xs (suc i) x e = get-front fs xs i x e

-- what comes after is as far after the front
pub get-after : {X : Type 0} (fs xs : List X) (i : ℕ) → slice_get (fs ++ xs) (length fs + i) ≡ slice_get xs i
get-after [] xs i = ap (slice_get xs) (omega arith)
get-after (f ∷ fs) xs i =
    let e : length (f ∷ fs) + i ≡ suc (length fs + i) = omega arith in
    ap (slice_get (f ∷ (fs ++ xs))) e ∙ get-after fs xs i

-- names of which as many differ as there are all differ
pub apart_by_count : (names : List (List ℕ)) → distinct_count bytes_eq names ≡ length names
    → Distinguishes (name_of names) (length names)
apart_by_count names e =
    let d = distinguishes (λ n. n) names (IsDistinct-from_count nat_list_eq_equiv names e) in
    rw map-id at d

module _ (fs xs : List (List ℕ)) where
  -- names of the front, and those after it
  pub name-front : (i : ℕ) → i < length fs → name_of (fs ++ xs) i ≡ name_of fs i
  name-front i h = get_or_append_left fs xs [] i h

  pub name-after : (i : ℕ) → length fs ≤ i → name_of (fs ++ xs) i ≡ name_of xs (i - length fs)
  name-after i h = get_or-append_right fs xs (length fs) i [] refl h

  kept_front : (b : Bool) (name : List ℕ) → (if b then fs ++ xs else (fs ++ xs) ++ name ∷ []) ≡ fs
      ++ (if b then xs else xs ++ name ∷ [])
  kept_front true name = refl
  kept_front false name = append_assoc fs xs (name ∷ [])

  -- what no name of the front passes depends on those after it
  pub any-after : (p : List ℕ → Bool) → list_any p fs ≡ false → list_any p (fs ++ xs) ≡ list_any p xs
  any-after p h = list_any-append p fs xs ∙ ap (λ b. b || list_any p xs) h

  -- what no name passes, none of the front passes
  pub none-front : (p : List ℕ → Bool) → list_any p (fs ++ xs) ≡ false → list_any p fs ≡ false
  none-front p h = (or_parts (list_any p fs) (list_any p xs) (sym (list_any-append p fs xs) ∙ h)).0

  -- a name that the front lacks goes last, after it
  pub with_name-after : (name : List ℕ) → list_any (bytes_eq name) fs ≡ false
      → with_name (fs ++ xs) name ≡ fs ++ with_name xs name
  with_name-after name h =
      ap (λ b. if b then fs ++ xs else (fs ++ xs) ++ name ∷ []) (any-after (bytes_eq name) h)
      ∙ kept_front (list_any (bytes_eq name) xs) name

  -- no name after it is one of the front
  apart : list_any (λ x. list_any (bytes_eq x) fs) xs ≡ false → (i j : ℕ) → i < length fs → j < length xs
      → ¬ (name_of xs j ≡ name_of fs i)
  apart none i j h k e =
      let here = list_any_at (bytes_eq (name_of xs j)) fs i [] h
      ((bytes_eq-Decides (name_of xs j) (name_of fs i)).1 e) in
      let some = list_any_at (λ x. list_any (bytes_eq x) fs) xs j [] k here in
      false≢true (sym none ∙ some)

  both : Distinguishes (name_of fs) (length fs) → Distinguishes (name_of xs) (length xs)
      → list_any (λ x. list_any (bytes_eq x) fs) xs ≡ false
      → (i j : ℕ) → i < length fs + length xs → j < length fs + length xs → name_of (fs ++ xs) i ≡ name_of (fs ++ xs) j
      → (i < length fs) ⊎ (length fs ≤ i) → (j < length fs) ⊎ (length fs ≤ j) → i ≡ j
  both f x none i j h k e (inl p) (inl q) = f i j p q (sym (name-front i p) ∙ e ∙ name-front j q)
  both f x none i j h k e (inl p) (inr q) = absurd
      (apart none i (j - length fs) p (omega arith) (sym (name-after j q) ∙ sym e ∙ name-front i p))
  both f x none i j h k e (inr p) (inl q) = absurd
      (apart none j (i - length fs) q (omega arith) (sym (name-after i p) ∙ e ∙ name-front j q))
  both f x none i j h k e (inr p) (inr q) =
      let same : i - length fs ≡ j - length fs = x (i - length fs) (j - length fs) (omega arith) (omega arith)
      (sym (name-after i p) ∙ e ∙ name-after j q) in
      omega arith

  -- names differ in the whole where they do in the front and after it, and the two have none in common
  pub distinguishes-both : Distinguishes (name_of fs) (length fs) → Distinguishes (name_of xs) (length xs)
      → list_any (λ x. list_any (bytes_eq x) fs) xs ≡ false
      → Distinguishes (name_of (fs ++ xs)) (length (fs ++ xs))
  distinguishes-both f x none i j h k e =
      let long = length-append fs xs in
      both f x none i j (omega arith) (omega arith) e (cases_lt i (length fs)) (cases_lt j (length fs))

pub fixed_numbers : HasNumbers fixed_names
fixed_numbers = record { room = omega arith; distinct = apart_by_count fixed_names refl }

-- one more name, which none of the names is
pub one_more : (names : List (List ℕ)) (name : List ℕ) → HasNumbers names → length names < 2 ^ 32
    → list_any (bytes_eq name) names ≡ false → HasNumbers (names ++ name ∷ [])
one_more names name h room none =
    let alone : Distinguishes (name_of (name ∷ [])) 1 = λ i j h k e. omega arith in
    let other : list_any (λ x. list_any (bytes_eq x) names) (name ∷ []) ≡ false = ap (λ b. b || false) none in
    record {
      room = omega (arith, length-append names (name ∷ []));
      distinct =
          distinguishes-both names (name ∷ []) h.distinct alone other;
    }
