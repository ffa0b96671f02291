-- The parts of a line before a position and from it on, by the indices of newlines.
use Rattle.std.proofs.Common.{◌≡◌, ◌≤◌, ◌<◌, ◌-◌, ℕ, Bool, List, true, false, not, length, get_or, take, drop, ap, sym}
use Rattle.std.proofs.Common.{◌∙◌, arith}
use Rattle.std.proofs.lemmas.List.{take_all, length-drop}
use Rattle.std.proofs.lemmas.List.Sums.{prefix_len_is, suffix_len_is}
use Rattle.std.specs.List.{prefix_len, suffix_len}
use Rattle.pf_diagnostics.specs.Positions.{is_newline, since_newline, up_to_newline}

abbrev pub is_other : ℕ → Bool
is_other byte = not (is_newline byte)

-- there is no newline from n on, and one right before n, if anything is
pub since_is : (xs : List ℕ) (n : ℕ) → n ≤ length xs
    → ((k : ℕ) → n ≤ k → k < length xs → is_newline (get_or xs k 0) ≡ false)
    → (0 < n → is_newline (get_or xs (n - 1) 0) ≡ true) → take (length xs - n) (drop n xs) ≡ since_newline xs
since_is xs n h none one =
    let after : suffix_len is_other xs ≡ length xs - n = suffix_len_is is_other xs n 0 h (λ k a b. ap not (none k a b))
    (λ a. ap not (one a)) in
    let start : n ≡ length xs - suffix_len is_other xs = omega (arith, after, h) in
    take_all (length xs - n) (drop n xs) (omega (arith, length-drop n xs)) ∙ ap (λ (k : ℕ). drop k xs) start

-- there is no newline before n, and one at n, unless that is the end
pub up_to_is : (xs : List ℕ) (n : ℕ) → n ≤ length xs → ((k : ℕ) → k < n → is_newline (get_or xs k 0) ≡ false)
    → (n < length xs → is_newline (get_or xs n 0) ≡ true) → take n xs ≡ up_to_newline xs
up_to_is xs n h none one =
    let front : prefix_len is_other xs ≡ n = prefix_len_is is_other xs n 0 h (λ k a. ap not (none k a))
    (λ a. ap not (one a)) in
    ap (λ (k : ℕ). take k xs) (sym front)
