-- Which seeds the words of a hunt name.
use Rattle.std.specs.Prelude.{ℕ, ◌+◌, List, [], ◌∷◌, Option, Some, None, option_and_then, Bool, ◌==◌, nat_lt}
use Rattle.std.specs.Prelude.{if◌then◌else◌}
use Rattle.std.specs.List.{list_any, before_first, after_first}
use Rattle.pf_text.specs.Numbers.{long, long_number_of}

-- seeds go from a first to before an end above it
abbrev pub seeds_between : (first end : Option ℕ) → Option (ℕ × ℕ)
seeds_between (Some a) (Some b) = if nat_lt a b then Some (a, b) else None
seeds_between _ _ = None

-- what is written `B` ends before B, and `=B` after it
abbrev pub range_end : List ℕ → Option ℕ
range_end [] = None
range_end (c ∷ text) =
    if c == 61 then option_and_then (λ last. long (last + 1)) (long_number_of text) else long_number_of (c ∷ text)

abbrev pub is_dot_byte : ℕ → Bool
is_dot_byte c = c == 46

-- the end is written after one dot more
abbrev pub after_dot : List ℕ → Option ℕ
after_dot [] = None
after_dot (c ∷ text) = if is_dot_byte c then range_end text else None

-- seeds are A..B or A..=B, with A before the first dot; a number alone is the end of those from 0 on
abbrev pub seeds_of : List ℕ → Option (ℕ × ℕ)
seeds_of text =
    if list_any is_dot_byte text then seeds_between (long_number_of (before_first is_dot_byte text))
    (after_dot (after_first is_dot_byte text))
    else seeds_between (Some 0) (long_number_of text)

-- where none are named they are the first 10,000; of a hunt for a time all but the greatest
abbrev pub seeds_named : (time seeds : Option (List ℕ)) → Option (ℕ × ℕ)
seeds_named time (Some word) = seeds_of word
seeds_named (Some time) None = Some (0, 18446744073709551615)
seeds_named None None = Some (0, 10000)
