-- Where a position of a source is, by the bytes before it and those from it on.
use Rattle.std.specs.Prelude.{ℕ, ◌+◌, ◌==◌, ◌&&◌, nat_lt, Bool, not, List, length, count_by}
use Rattle.std.specs.List.{after_last, before_first}

abbrev pub is_newline : ℕ → Bool
is_newline byte = byte == 10

-- a byte that goes on with a character of UTF-8
abbrev pub goes_on : ℕ → Bool
goes_on byte = nat_lt 127 byte && nat_lt byte 192

-- a byte with which a character begins
abbrev pub begins_character : ℕ → Bool
begins_character byte = not (goes_on byte)

-- how many columns bytes take: one for each character
abbrev pub columns : List ℕ → ℕ
columns bytes = count_by begins_character bytes

-- the line of a position: 1 and the newlines before it
abbrev pub line_number : List ℕ → ℕ
line_number front = 1 + count_by is_newline front

-- what is before it on its line: the bytes since the last newline
abbrev pub since_newline : List ℕ → List ℕ
since_newline front = after_last is_newline front

-- its column: 1 and the columns since the last newline
abbrev pub column : List ℕ → ℕ
column front = 1 + columns (since_newline front)

-- the rest of its line: the bytes from it on, up to the next newline
abbrev pub up_to_newline : List ℕ → List ℕ
up_to_newline after = before_first is_newline after
