-- Numbers in texts.
use Rattle.std.proofs.Common.{◌≡◌, ℕ, zero, suc, ◌<◌, ◌≤◌, ◌^◌, List, [], ◌∷◌, ◌++◌, length, get_or, Some, None, Option}
use Rattle.std.proofs.Common.{refl, ap, arith}
use Rattle.std.proofs.lemmas.Bool.{le-ltb}
use Rattle.pf_text.specs.Numbers.{long, number_of_digits, numbers_of_texts, number_before}

-- a value above the limit is no number
pub long_none : (value : ℕ) → 2 ^ 64 ≤ value → long value ≡ None
long_none value le = rw (le-ltb value (2 ^ 64) le) refl

-- numbers that one text begins
more_of : (o : Option ℕ) (before after : Option (List ℕ)) (n : ℕ) (ns : List ℕ) → number_before o before ≡ Some ns
    → ((ms : List ℕ) → before ≡ Some ms → after ≡ Some (ms ++ n ∷ [])) → number_before o after ≡ Some (ns ++ n ∷ [])
more_of None before after n ns e h = absurd cc
more_of (Some m) None after n ns e h = absurd cc
more_of (Some m) (Some ms) after n ns e h =
    let same : ns ≡ m ∷ ms = cc in
    rw (h ms refl, same) refl

-- one more text that is a number
pub numbers_more : (ts : List (List ℕ)) (t : List ℕ) (ns : List ℕ) (n : ℕ) → numbers_of_texts ts ≡ Some ns
    → number_of_digits t ≡ Some n → numbers_of_texts (ts ++ t ∷ []) ≡ Some (ns ++ n ∷ [])
numbers_more [] t [] n e h = ap (λ (o : Option ℕ). number_before o (Some [])) h
numbers_more [] t (m ∷ ns) n e h = absurd cc
numbers_more (u ∷ us) t ns n e h = more_of (number_of_digits u) (numbers_of_texts us) (numbers_of_texts (us ++ t ∷ []))
    n ns e (λ ms k. numbers_more us t ms n k h)

-- a number before no numbers
none_of : (o : Option ℕ) (ns : Option (List ℕ)) → ns ≡ None → number_before o ns ≡ None
none_of None ns h = refl
none_of (Some n) None h = refl
none_of (Some n) (Some ns) h = absurd cc

-- where one text is no number there are none
pub numbers_none : (ts : List (List ℕ)) (i : ℕ) (t : List ℕ) → i < length ts → t ≡ get_or ts i t
    → number_of_digits t ≡ None → numbers_of_texts ts ≡ None
numbers_none [] i t lt e h = absurd (omega arith)
numbers_none (u ∷ us) zero t lt e h = rw (← e, h) refl
numbers_none (u ∷ us) (suc i) t lt e h = none_of (number_of_digits u) (numbers_of_texts us)
    (numbers_none us i t (omega arith) e h)
