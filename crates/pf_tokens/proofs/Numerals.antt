-- The value of digits, as it grows.
use Rattle.std.proofs.Common.{◌≡◌, ℕ, ◌+◌, ◌-◌, ◌*◌, ◌^◌, ◌<◌, ◌≤◌, List, [], ◌∷◌, ◌++◌, length, get_or, take, drop}
use Rattle.std.proofs.Common.{Some, None, refl, ap, arith}
use Rattle.std.specs.List.{fold}
use Rattle.std.proofs.lemmas.Bool.{le-ltb, lt-ltb}
use Rattle.std.proofs.lemmas.List.{take-append-drop}
use Rattle.std.proofs.lemmas.List.Sums.{fold_more, fold-append}
use Rattle.pf_tokens.specs.TokenKinds.{decimal, checked}

abbrev more : ℕ → ℕ → ℕ
more value digit = 10 * value + (digit - 48)

-- more digits make no smaller value
grows : (value : ℕ) (digits : List ℕ) → value ≤ fold more value digits
grows value [] = omega arith
grows value (d ∷ ds) = omega (arith, grows (10 * value + (d - 48)) ds)

-- one more digit
pub decimal_more : (digits : List ℕ) (i : ℕ) → i < length digits
    → decimal (take (i + 1) digits) ≡ 10 * decimal (take i digits) + (get_or digits i 0 - 48)
decimal_more digits i lt = fold_more more 0 digits i 0 lt

-- the first digits make no larger value
pub decimal_front : (digits : List ℕ) (i : ℕ) → decimal (take i digits) ≤ decimal digits
decimal_front digits i =
    let all : decimal (take i digits ++ drop i digits) ≡ decimal digits = ap decimal (take-append-drop i digits) in
    let two : decimal (take i digits ++ drop i digits) ≡ fold more (decimal (take i digits)) (drop i digits) =
    fold-append more 0 (take i digits) (drop i digits) in
    omega (arith, all, two, grows (decimal (take i digits)) (drop i digits))

-- a value above the limit is none
pub checked_none : (value : ℕ) → 2 ^ 63 ≤ value → checked value ≡ None
checked_none value le = rw (le-ltb value (2 ^ 63) le) refl

pub checked_some : (value : ℕ) → value < 2 ^ 63 → checked value ≡ Some value
checked_some value lt = rw (lt-ltb value (2 ^ 63) lt) refl
