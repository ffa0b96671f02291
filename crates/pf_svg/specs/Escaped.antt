-- Text that may be in a document.
use Rattle.std.specs.Prelude.{ℕ, ◌-◌, Bool, true, false, ◌&&◌, ◌||◌, not, ◌==◌, nat_lt, if◌then◌else◌, List, [], ◌∷◌}
use Rattle.std.specs.Prelude.{◌++◌, length, take, flat_map, codes}
use Rattle.std.specs.Fmt.{decimal}

-- the character that stands for a byte that can't be written as it is: a blank of lines or a byte of Latin-1 is itself
abbrev pub character_of : ℕ → ℕ
character_of b = if nat_lt 126 b || (b == 9 || (b == 10 || b == 13)) then b else 65533

-- a character by its number
abbrev pub reference : ℕ → List ℕ
reference b = codes "&#" ++ decimal (character_of b) ++ codes ";"

abbrev pub escaped_byte : ℕ → List ℕ
escaped_byte b =
    if b == 38 then codes "&amp;"
    else (if b == 60 then codes "&lt;"
    else (if b == 62 then codes "&gt;"
    else (if b == 34 then codes "&quot;"
    else (if nat_lt b 32 || nat_lt 126 b then reference b
    else b ∷ []))))

abbrev pub escaped : List ℕ → List ℕ
escaped bs = flat_map escaped_byte bs

-- the first bytes of a text and three dots, or all of it if no more than three would go
abbrev pub short : (most : ℕ) → List ℕ → List ℕ
short most bs = if nat_lt most (length bs - 3) then escaped (take most bs) ++ codes "..." else escaped bs

-- a byte of what is between `&` and `;`
abbrev pub is_entity_byte : ℕ → Bool
is_entity_byte b = (b == 35) || ((nat_lt 47 b && nat_lt b 58) || (nat_lt 96 b && nat_lt b 123))

-- whether bytes are text, within a reference or not: no `<` occurs there, and after each `&` a name and a `;`
abbrev pub is_text : (within : Bool) → List ℕ → Bool
is_text within [] = not within
is_text true (b ∷ bs) = if b == 59 then is_text false bs else is_entity_byte b && is_text true bs
is_text false (b ∷ bs) = if b == 38 then is_text true bs else not (b == 60) && is_text false bs

abbrev pub is_byte : ℕ → Bool
is_byte b = nat_lt b 256
