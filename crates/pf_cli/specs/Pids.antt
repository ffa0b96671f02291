-- The process that a word names.
use Rattle.std.specs.Prelude.{ℕ, ◌-◌, ◌==◌, ◌&&◌, nat_le, Bool, if◌then◌else◌, Option, Some, None, drop, get_or, length}
use Rattle.std.specs.Prelude.{option_map, take}
use Rattle.clap.specs.Words.{Text}
use Rattle.pf_text.specs.Numbers.{number_of_digits}

-- a text is between `<` and `>`, as a pid is in a report
abbrev pub is_enclosed : Text → Bool
is_enclosed text = nat_le 2 (length text) && (get_or text 0 0 == 60 && get_or text (length text - 1) 0 == 62)

-- what is between them; else the whole text
abbrev pub unenclosed : Text → Text
unenclosed text = if is_enclosed text then take (length text - 2) (drop 1 text) else text

-- a pid by its number, between `<` and `>` or without them
abbrev pub pid_of : Text → Option ℕ
pid_of word = number_of_digits (unenclosed word)

-- the process that a word names, if there is a word
abbrev pub pid_named : Option Text → Option (Option ℕ)
pid_named None = Some None
pid_named (Some word) = option_map Some (pid_of word)
