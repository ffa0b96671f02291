-- The line of a position as it is shown, and the caret below the position.
use Rattle.std.specs.Prelude.{ℕ, zero, suc, ◌+◌, ◌-◌, ◌==◌, ◌&&◌, ◌||◌, nat_lt, get_or, Bool, List, [], ◌∷◌, ◌++◌}
use Rattle.std.specs.Prelude.{length, take, drop, replicate, codes, if◌then◌else◌}
use Rattle.pf_diagnostics.specs.Positions.{columns, goes_on, since_newline, up_to_newline}
use Rattle.pf_diagnostics.specs.declared.shown.TheConstants.{MOST_SHOWN}

-- the first of the two bytes of a letter in UTF-8, from À on
abbrev pub leads : ℕ → Bool
leads byte = nat_lt 194 byte && nat_lt byte 224

-- a byte that goes on with a character: itself in such a letter, else nothing
abbrev pub shown_after : (before byte : ℕ) → List ℕ
shown_after before byte = if leads before then byte ∷ [] else []

-- a byte with which a character begins: itself from the blank to `~` and in such a letter, else `?`
abbrev pub shown_other : (byte next : ℕ) → List ℕ
shown_other byte next = if nat_lt 31 byte && nat_lt byte 127 || leads byte && goes_on next then byte ∷ [] else 63 ∷ []

-- a tab is a blank, so that the caret is below its position
abbrev pub shown_first : (byte next : ℕ) → List ℕ
shown_first byte next = if byte == 9 then 32 ∷ [] else shown_other byte next

-- a byte as it is shown, by those around it
abbrev pub shown_byte : (before byte next : ℕ) → List ℕ
shown_byte before byte next = if goes_on byte then shown_after before byte else shown_first byte next

-- the first n bytes as they are shown
unfoldable pub shown_up_to : List ℕ → (n : ℕ) → List ℕ
shown_up_to bytes zero = []
shown_up_to bytes (suc n) = shown_up_to bytes n ++ shown_byte (get_or bytes (n - 1) 0) (get_or bytes n 0)
    (get_or bytes (n + 1) 0)

-- bytes as they are shown
abbrev pub shown_bytes : List ℕ → List ℕ
shown_bytes bytes = shown_up_to bytes (length bytes)

-- the last bytes of a front, as many as are shown
abbrev pub nearest : List ℕ → List ℕ
nearest before = drop (length before - MOST_SHOWN) before

-- the first bytes of what follows, as many as are shown
abbrev pub farthest : List ℕ → List ℕ
farthest after = take MOST_SHOWN after

-- the line around a position, by the bytes before the position and those from it on
abbrev pub shown_line : (front after : List ℕ) → List ℕ
shown_line front after = shown_bytes (nearest (since_newline front)) ++ shown_bytes (farthest (up_to_newline after))

-- a caret in the column of the position, after as many blanks as the bytes that are shown before the position have
-- columns
abbrev pub caret_line : (front : List ℕ) → List ℕ
caret_line front = replicate (columns (nearest (since_newline front))) 32 ++ codes "^"
