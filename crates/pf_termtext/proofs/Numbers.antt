-- Integers as they are printed and read.
use Rattle.std.proofs.Common.{◌≡◌, ℕ, zero, suc, ◌+◌, ◌*◌, ◌-◌, ◌^◌, ◌<◌, pos, negsuc, ℤ, Bool, true, false, cond, eqb}
use Rattle.std.proofs.Common.{ltb, List, [], ◌∷◌, length, get_or, Some, None, refl, sym, ap, ◌∙◌, arith, rules}
use Rattle.std.specs.Prelude.{not, ◌&&◌}
use Rattle.std.specs.List.{list_all, fold}
use Rattle.std.specs.Fmt as print
use Rattle.std.proofs.lemmas.Bool.{lt-ltb, ltb-true, eqb-true}
use Rattle.std.proofs.lemmas.Fmt.{digits_decimal, digits_value-decimal, decimal-digits_value, decimal_digit}
use Rattle.std.proofs.lemmas.Fmt.{first_decimal, decimal_nonempty}
use Rattle.std.proofs.lemmas.Str.Parse.{IsNumeralModel, numerals_by_fold}
use Rattle.pf_tokens.specs.Bytes.{is_digit}
use Rattle.pf_tokens.specs.TokenKinds.{decimal}
use Rattle.pf_text.specs.Numbers.{is_numeral}
use Rattle.pf_termtext.specs.Texts.{Has64Bits}
use Rattle.pf_termtext.specs.Reading.{signed, integer_of_digits}
use Rattle.pf_errors.proofs.Bools.{both}

abbrev are_digits : List ℕ → Type 0
are_digits ds = list_all is_digit ds ≡ true

abbrev value_from : ℕ → List ℕ → ℕ
value_from n ds = fold (λ value digit. 10 * value + (digit - 48)) n ds

own : IsNumeralModel are_digits (value_from 0)
own = numerals_by_fold _ (search rules) value_from (search rules)

-- digits of a numeral: at least one, and no zero before others
numeral_parts : (ds : List ℕ) → is_numeral ds ≡ true
    → are_digits ds × (0 < length ds) × (get_or ds 0 0 ≡ 48 → length ds ≡ 1)
numeral_parts [] e = absurd cc
numeral_parts (d ∷ []) e = (rw e refl, omega arith, λ _. omega arith)
numeral_parts (d ∷ c ∷ ds) e = by (eqb d 48) refl e
  where
    by : (t : Bool) → eqb d 48 ≡ t → (not t && list_all is_digit (d ∷ c ∷ ds)) ≡ true
        → are_digits (d ∷ c ∷ ds) × (0 < length (d ∷ c ∷ ds)) × (d ≡ 48 → length (d ∷ c ∷ ds) ≡ 1)
    by true is e = absurd cc
    by false is e = (
      e,
      omega arith,
      λ zero_first.
          absurd (let yes : false ≡ true = sym is ∙ ap (λ x. eqb x 48) zero_first in cc),
    )

parts_numeral : (ds : List ℕ) → are_digits ds → 0 < length ds → (get_or ds 0 0 ≡ 48 → length ds ≡ 1)
    → is_numeral ds ≡ true
parts_numeral [] digits some alone = absurd (omega arith)
parts_numeral (d ∷ []) digits some alone = (both (is_digit d) true digits).0
parts_numeral (d ∷ c ∷ ds) digits some alone = by (eqb d 48) refl
  where
    by : (t : Bool) → eqb d 48 ≡ t → (not t && list_all is_digit (d ∷ c ∷ ds)) ≡ true
    by true is = absurd (omega (arith, alone (eqb-true d 48 is)))
    by false is = digits

-- what is printed of a number is a numeral, and its value is the number
pub decimal_numeral : (n : ℕ) → n < 2 ^ 64 → is_numeral (print.decimal n) ≡ true
decimal_numeral zero lt = rw (decimal_digit 0 (omega arith)) refl
decimal_numeral (suc n) lt =
    let first = first_decimal (suc n) (omega arith) lt in
    parts_numeral (print.decimal (suc n)) (digits_decimal own (suc n) lt) (decimal_nonempty (suc n) lt)
    (λ e. absurd (omega (arith, first, e)))

pub decimal_value : (n : ℕ) → n < 2 ^ 64 → decimal (print.decimal n) ≡ n
decimal_value n lt = digits_value-decimal own n lt

pub decimal_digits : (n : ℕ) → n < 2 ^ 64 → list_all is_digit (print.decimal n) ≡ true
decimal_digits n lt = digits_decimal own n lt

-- a numeral is what is printed of its value
pub numeral_printed : (ds : List ℕ) → is_numeral ds ≡ true → decimal ds < 2 ^ 64 → print.decimal (decimal ds) ≡ ds
numeral_printed ds e lt = let parts = numeral_parts ds e in decimal-digits_value own ds parts.0 parts.1 parts.2 lt

-- how the digits of an integer come after its sign
abbrev pub IsPrintedBy : Bool → List ℕ → ℤ → Type 0
IsPrintedBy false ds z = (print.signed_decimal z ≡ ds) × Has64Bits z
IsPrintedBy true ds z = (print.signed_decimal z ≡ 45 ∷ ds) × Has64Bits z

-- what is read of digits prints as them
pub integer_printed : (minus : Bool) (ds : List ℕ) (z : ℤ) → integer_of_digits minus ds ≡ Some z
    → IsPrintedBy minus ds z
integer_printed minus ds z e = numeral minus (is_numeral ds) refl e
  where
    positive : (b : Bool) → ltb (decimal ds) (2 ^ 63) ≡ b → is_numeral ds ≡ true
        → cond b (Some (pos (decimal ds))) None ≡ Some z → IsPrintedBy false ds z
    positive true lt is made =
        let same : pos (decimal ds) ≡ z = cc in
        let below : decimal ds < 2 ^ 63 = ltb-true (decimal ds) (2 ^ 63) lt in
        rw (← same) (numeral_printed ds is (omega (arith, below)), below)
    positive false lt is made = absurd cc

    negative : (n : ℕ) → decimal ds ≡ n → is_numeral ds ≡ true → signed true n ≡ Some z → IsPrintedBy true ds z
    negative zero value is made = absurd cc
    negative (suc n) value is made = by (ltb n (2 ^ 63)) refl made
      where
        by : (b : Bool) → ltb n (2 ^ 63) ≡ b → cond b (Some (negsuc n)) None ≡ Some z → IsPrintedBy true ds z
        by true lt made =
            let same : negsuc n ≡ z = cc in
            let below : n < 2 ^ 63 = ltb-true n (2 ^ 63) lt in
            rw (← same) (
              ap (λ x. 45 ∷ x) (ap print.decimal (sym value) ∙ numeral_printed ds is
                  (omega (arith, below, value))),
              below,
            )
        by false lt made = absurd cc

    numeral : (minus t : Bool) → is_numeral ds ≡ t → cond t (signed minus (decimal ds)) None ≡ Some z
        → IsPrintedBy minus ds z
    numeral false true is made = positive (ltb (decimal ds) (2 ^ 63)) refl is made
    numeral true true is made = negative (decimal ds) refl is made
    numeral minus false is made = absurd cc

-- what is printed of an integer is read as it
pub positive_read : (n : ℕ) → n < 2 ^ 63 → integer_of_digits false (print.decimal n) ≡ Some (pos n)
positive_read n lt =
    let below : n < 2 ^ 64 = omega arith in
    rw (decimal_numeral n below, decimal_value n below, lt-ltb n (2 ^ 63) lt) refl

pub negative_read : (n : ℕ) → n < 2 ^ 63 → integer_of_digits true (print.decimal (suc n)) ≡ Some (negsuc n)
negative_read n lt =
    let below : suc n < 2 ^ 64 = omega arith in
    rw (decimal_numeral (suc n) below, decimal_value (suc n) below, lt-ltb n (2 ^ 63) lt) refl
