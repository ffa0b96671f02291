-- Numbers and schedules in words.
use Rattle.std.specs.Prelude.{ℕ, ◌^◌, List, [], ◌∷◌, Option, Some, None, codes, Bool, false, ◌&&◌, ◌==◌, not, nat_lt}
use Rattle.std.specs.Prelude.{if◌then◌else◌}
use Rattle.std.specs.List.{list_all, slice_split}
use Rattle.std.specs.Str.{bytes_eq}
use Rattle.pf_tokens.specs.Bytes.{is_digit}
use Rattle.pf_tokens.specs.TokenKinds.{decimal}

-- a number is in digits, without a zero before others
abbrev pub is_numeral : List ℕ → Bool
is_numeral [] = false
is_numeral (d ∷ []) = is_digit d
is_numeral (d ∷ e ∷ ds) = not (d == 48) && list_all is_digit (d ∷ e ∷ ds)

-- a value below 4,294,967,296
abbrev pub small : ℕ → Option ℕ
small value = if nat_lt value (2 ^ 32) then Some value else None

-- a value below 18,446,744,073,709,551,616
abbrev pub long : ℕ → Option ℕ
long value = if nat_lt value (2 ^ 64) then Some value else None

-- a number is below 4,294,967,296
abbrev pub number_of_digits : List ℕ → Option ℕ
number_of_digits text = if is_numeral text then small (decimal text) else None

-- a long number is below 18,446,744,073,709,551,616
abbrev pub long_number_of : List ℕ → Option ℕ
long_number_of text = if is_numeral text then long (decimal text) else None

abbrev pub number_before : Option ℕ → Option (List ℕ) → Option (List ℕ)
number_before (Some n) (Some ns) = Some (n ∷ ns)
number_before _ _ = None

-- the numbers of some texts, where each is one
abbrev pub numbers_of_texts : List (List ℕ) → Option (List ℕ)
numbers_of_texts [] = Some []
numbers_of_texts (t ∷ ts) = number_before (number_of_digits t) (numbers_of_texts ts)

-- a schedule is `none`, which has no number, or numbers with commas between them
abbrev pub schedule_of : List ℕ → Option (List ℕ)
schedule_of text = if bytes_eq text (codes "none") then Some [] else numbers_of_texts (slice_split (λ b. b == 44) text)
