-- Tests that all bytes of a text pass.
use Rattle.std.proofs.Common.{◌≡◌, ◌⊎◌, inl, inr, ℕ, zero, suc, ◌/◌, ◌%◌, ◌<◌, Bool, true, false, ◌==◌, ◌||◌}
use Rattle.std.proofs.Common.{if◌then◌else◌, List, [], ◌∷◌, ◌++◌, refl, arith, ℤ, pos, negsuc}
use Rattle.std.specs.Prelude.{nat_le}
use Rattle.std.specs.List.{flat_map, list_all}
use Rattle.std.specs.Fmt.{decimal, digit_glyph, digits, digits_onto, signed_decimal}
use Rattle.std.proofs.lemmas.Bool.{and_from, and_parts, eqb-true, leb-true, or_left}
use Rattle.std.proofs.lemmas.Bool.Decides.{nat_tests}
use Rattle.std.proofs.lemmas.List.Sums.{AllPass-from_list_all}
use Rattle.std.proofs.lemmas.Nat.{mod_below}
use Rattle.pf_tokens.specs.Bytes.{is_visible}
use Rattle.pf_model.specs.TermText.{line}
use Rattle.pf_laws.specs.Printable.{AreLines, AreVisible, IsVisible}

-- ---- of any test

module _ {X : Type 0} (p : X → Bool) where
  pub passes_append : (xs ys : List X) → list_all p xs ≡ true → list_all p ys ≡ true → list_all p (xs ++ ys) ≡ true
  passes_append [] ys h k = k
  passes_append (x ∷ xs) ys h k =
      let parts = and_parts (p x) (list_all p xs) h in
      and_from (p x) (list_all p (xs ++ ys)) parts.0 (passes_append xs ys parts.1 k)

  pub passes_flat : {Y : Type 0} (f : Y → List X) → ((y : Y) → list_all p (f y) ≡ true) → (ys : List Y)
      → list_all p (flat_map f ys) ≡ true
  passes_flat f h [] = refl
  passes_flat f h (y ∷ ys) = passes_append (f y) (flat_map f ys) (h y) (passes_flat f h ys)

  -- what passes this test passes that
  pub passes_too : (q : X → Bool) → ((x : X) → p x ≡ true → q x ≡ true) → (xs : List X) → list_all p xs ≡ true
      → list_all q xs ≡ true
  passes_too q h [] e = refl
  passes_too q h (x ∷ xs) e =
      let parts = and_parts (p x) (list_all p xs) e in
      and_from (q x) (list_all q xs) (h x parts.0) (passes_too q h xs parts.1)

-- ---- visible bytes

abbrev pub Seen : List ℕ → Type 0
Seen bytes = list_all is_visible bytes ≡ true

pub seen_append : (xs ys : List ℕ) → Seen xs → Seen ys → Seen (xs ++ ys)
seen_append = passes_append is_visible

-- ---- lines of them

abbrev pub is_printed : ℕ → Bool
is_printed b = is_visible b || b == 10

abbrev pub InLines : List ℕ → Type 0
InLines bytes = list_all is_printed bytes ≡ true

pub lines_append : (xs ys : List ℕ) → InLines xs → InLines ys → InLines (xs ++ ys)
lines_append = passes_append is_printed

pub line_printed : (text : List ℕ) → Seen text → InLines (line text)
line_printed text h =
    lines_append text (10 ∷ []) (passes_too is_visible is_printed (λ b e. or_left (is_visible b) (b == 10) e) text h)
    refl

-- ---- numbers

seen_digit : (d : ℕ) → d < 10 → is_visible (digit_glyph false d) ≡ true
seen_digit d h = grind (arith, nat_tests)

seen_onto : (k n : ℕ) (acc : List ℕ) → Seen acc → Seen (digits_onto k 10 false n acc)
seen_onto zero n acc h = h
seen_onto (suc k) n acc h =
    by (n / 10 == 0) (seen_onto k (n / 10) (digit_glyph false (n % 10) ∷ acc) more) more
  where
    more : Seen (digit_glyph false (n % 10) ∷ acc)
    more = and_from (is_visible (digit_glyph false (n % 10))) (list_all is_visible acc)
        (seen_digit (n % 10) (mod_below n 10 (omega arith))) h

    by : (e : Bool) → Seen (digits_onto k 10 false (n / 10) (digit_glyph false (n % 10) ∷ acc))
        → Seen (digit_glyph false (n % 10) ∷ acc)
        → Seen (if e then digit_glyph false (n % 10) ∷ acc
        else digits_onto k 10 false (n / 10) (digit_glyph false (n % 10) ∷ acc))
    by true rest last = last
    by false rest last = rest

pub seen_decimal : (n : ℕ) → Seen (decimal n)
unfolding digits
seen_decimal n = seen_onto 64 n [] refl

pub seen_signed : (z : ℤ) → Seen (signed_decimal z)
seen_signed (pos n) = seen_decimal n
seen_signed (negsuc n) = seen_decimal (suc n)

-- ---- what they decide

visible_is : (b : ℕ) → is_visible b ≡ true → IsVisible b
visible_is b e = let parts = and_parts (nat_le 32 b) (nat_le b 126) e in (leb-true 32 b parts.0, leb-true b 126 parts.1)

pub are_visible : (bytes : List ℕ) → Seen bytes → AreVisible bytes
are_visible bytes e k d l = visible_is _ (AllPass-from_list_all is_visible bytes e k d l)

printed_is : (b : ℕ) → is_printed b ≡ true → (b ≡ 10) ⊎ IsVisible b
printed_is b = by (is_visible b) (visible_is b)
  where
    by : (seen : Bool) → (seen ≡ true → IsVisible b) → (seen || b == 10) ≡ true → (b ≡ 10) ⊎ IsVisible b
    by true h e = inr (h refl)
    by false h e = inl (eqb-true b 10 e)

pub are_lines : (bytes : List ℕ) → InLines bytes → AreLines bytes
are_lines bytes e k d l = printed_is _ (AllPass-from_list_all is_printed bytes e k d l)
