-- Escaped text stays text.
use Rattle.std.proofs.Common.{◌≡◌, ℕ, zero, suc, ◌-◌, ◌<◌, ◌≤◌, ◌^◌, true, false, List, [], ◌∷◌, ◌++◌, take, length}
use Rattle.std.proofs.Common.{refl, inl, inr, ◌∙◌, ap, arith, append_assoc, append-nil}
use Rattle.std.specs.Prelude.{codes, nat_lt, ◌==◌, ◌||◌, if◌then◌else◌}
use Rattle.std.specs.List.{list_all}
use Rattle.std.specs.Fmt.{decimal}
use Rattle.std.specs.Str.{all_ascii_digits}
use Rattle.std.proofs.lemmas.Fmt.{digits_decimal}
use Rattle.std.proofs.lemmas.Str.Parse.{numerals_by_value, tells_all_ascii_digits}
use Rattle.std.proofs.lemmas.Bool.Decides.{eqb_tells, nat_tests}
use Rattle.pf_svg.specs.Escaped.{character_of, escaped, escaped_byte, is_byte, is_text, is_entity_byte, reference}
use Rattle.pf_svg.specs.Escaped.{short}
use Rattle.pf_errors.proofs.Bools.{both}

within : (b : ℕ) (bs : List ℕ) → (b == 59) ≡ false → is_entity_byte b ≡ true → is_text true (b ∷ bs) ≡ is_text true bs
within b bs e n = rw (e, n) refl

outside : (b : ℕ) (bs : List ℕ) → (b == 38) ≡ false → (b == 60) ≡ false → is_text false (b ∷ bs) ≡ is_text false bs
outside b bs e n = rw (e, n) refl

digit_no_end : (d : ℕ) → 48 ≤ d → d ≤ 57 → (d == 59) ≡ false
digit_no_end d low high = grind (arith, nat_tests)

digit_names : (d : ℕ) → 48 ≤ d → d ≤ 57 → is_entity_byte d ≡ true
digit_names d low high = grind (arith, nat_tests)

-- digits and a `;` end a reference
digits_end : (ds bs : List ℕ) → all_ascii_digits ds ≡ true → is_text true (ds ++ 59 ∷ bs) ≡ is_text false bs
digits_end [] bs h = refl
digits_end (d ∷ ds) bs h =
    let p = tells_all_ascii_digits.parts d ds h in
    within d (ds ++ 59 ∷ bs) (digit_no_end d p.0.0 p.0.1) (digit_names d p.0.0 p.0.1) ∙ digits_end ds bs p.1

code_is_small : (b : ℕ) → b < 256 → character_of b < 2 ^ 64
code_is_small b lt = grind (arith, nat_tests)

decimal_digits : (n : ℕ) → n < 2 ^ 64 → all_ascii_digits (decimal n) ≡ true
decimal_digits n lt = digits_decimal (numerals_by_value (λ ds. all_ascii_digits ds ≡ true) tells_all_ascii_digits) n lt

reference_stays : (b : ℕ) (bs : List ℕ) → b < 256 → is_text false (reference b ++ bs) ≡ is_text false bs
reference_stays b bs lt =
    let n = character_of b in
    let end : is_text true ((decimal n ++ 59 ∷ []) ++ bs) ≡ is_text false bs =
    rw append_assoc (digits_end (decimal n) bs (decimal_digits n (code_is_small b lt))) in
    end

-- a byte that is no `&` and no `<`
other_stays : (b : ℕ) (bs : List ℕ) → b < 256 → (b == 38) ≡ false → (b == 60) ≡ false
    → is_text false ((if nat_lt b 32 || nat_lt 126 b then reference b else b ∷ []) ++ bs) ≡ is_text false bs
other_stays b bs lt e n =
    elim (nat_lt b 32 || nat_lt 126 b) as (λ v. is_text false ((if v then reference b else b ∷ []) ++ bs)
    ≡ is_text false bs)
    [ true ↦ reference_stays b bs lt | false ↦ outside b bs e n ]

-- the last two of the bytes that have names
named_stays : (b : ℕ) (bs : List ℕ) → b < 256 → (b == 38) ≡ false → (b == 60) ≡ false
    → is_text false (escaped_byte b ++ bs) ≡ is_text false bs
named_stays b bs lt e n =
    elim (eqb_tells b 62) [
      | inl p ↦ rw (e, n, p.0) refl
      | inr p ↦ elim (eqb_tells b 34) [
        | inl q ↦ rw (e, n, p.0, q.0) refl
        | inr q ↦ rw (e, n, p.0, q.0) (other_stays b bs lt e n)
      ]
    ]

byte_stays : (b : ℕ) (bs : List ℕ) → b < 256 → is_text false (escaped_byte b ++ bs) ≡ is_text false bs
byte_stays b bs lt =
    elim (eqb_tells b 38) [
      | inl p ↦ rw p.0 refl
      | inr p ↦ elim (eqb_tells b 60) [
        | inl q ↦ rw (p.0, q.0) refl
        | inr q ↦ named_stays b bs lt p.0 q.0
      ]
    ]

byte_is_small : (b : ℕ) → is_byte b ≡ true → b < 256
byte_is_small b h = grind (arith, nat_tests)

-- escaped text before text
escaped_stays : (xs bs : List ℕ) → list_all is_byte xs ≡ true → is_text false (escaped xs ++ bs) ≡ is_text false bs
escaped_stays [] bs h = refl
escaped_stays (x ∷ xs) bs h =
    rw append_assoc (byte_stays x (escaped xs ++ bs) (byte_is_small x (both (is_byte x) (list_all is_byte xs) h).0)
    ∙ escaped_stays xs bs (both (is_byte x) (list_all is_byte xs) h).1)

all_of_front : (n : ℕ) (xs : List ℕ) → list_all is_byte xs ≡ true → list_all is_byte (take n xs) ≡ true
all_of_front zero xs h = refl
all_of_front (suc n) [] h = refl
all_of_front (suc n) (x ∷ xs) h =
    rw (both (is_byte x) (list_all is_byte xs) h).0 (all_of_front n xs (both (is_byte x) (list_all is_byte xs) h).1)

pub whole_stays : (xs : List ℕ) → list_all is_byte xs ≡ true → is_text false (escaped xs) ≡ true
whole_stays xs h = rw (← append-nil (escaped xs)) (escaped_stays xs [] h)

pub short_stays : (most : ℕ) (xs : List ℕ) → list_all is_byte xs ≡ true → is_text false (short most xs) ≡ true
short_stays most xs h =
    elim (nat_lt most (length xs - 3)) as (λ v. is_text false (if v then escaped (take most xs) ++ codes "..."
    else escaped xs) ≡ true)
    [ true ↦ escaped_stays (take most xs) (codes "...") (all_of_front most xs h) | false ↦ whole_stays xs h ]

-- five texts one after another
pub five : (o a b c d e : List ℕ) {x y z v w : List ℕ} → x ≡ o ++ a → y ≡ x ++ b → z ≡ y ++ c → v ≡ z ++ d → w ≡ v ++ e
    → w ≡ o ++ (a ++ (b ++ (c ++ (d ++ e))))
five o a b c d e h i j k l =
    l ∙ ap (λ (t : List ℕ). t ++ e) (k ∙ ap (λ (t : List ℕ). t ++ d)
    (j ∙ ap (λ (t : List ℕ). t ++ c) (i ∙ ap (λ (t : List ℕ). t ++ b) h)))
    ∙ append_assoc (((o ++ a) ++ b) ++ c) d e ∙ append_assoc ((o ++ a) ++ b) c (d ++ e)
    ∙ append_assoc (o ++ a) b (c ++ (d ++ e)) ∙ append_assoc o a (b ++ (c ++ (d ++ e)))
