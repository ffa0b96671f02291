-- For how long a hunt or an exploration goes on at most, by its words.
use Rattle.std.specs.Prelude.{ℕ, ◌-◌, ◌*◌, List, [], ◌∷◌, Option, Some, None, option_map, length, take, drop, ◌==◌}
use Rattle.std.specs.Prelude.{nat_le, if◌then◌else◌}
use Rattle.pf_text.specs.Numbers.{number_of_digits}

-- how many seconds a unit of time has: s, m or h
abbrev pub unit_of : List ℕ → Option ℕ
unit_of (c ∷ []) = if c == 115 then Some 1 else (if c == 109 then Some 60 else (if c == 104 then Some 3600 else None))
unit_of _ = None

abbrev pub seconds_of : (number unit : Option ℕ) → Option ℕ
seconds_of (Some n) (Some u) = if nat_le 1 n then Some (n * u) else None
seconds_of _ _ = None

-- a time is a number above 0 with its unit after it, as 90s, 5m or 2h
abbrev pub time_of : List ℕ → Option ℕ
time_of text = seconds_of (number_of_digits (take (length text - 1) text)) (unit_of (drop (length text - 1) text))

-- where none is named it goes on to its end
abbrev pub time_named : Option (List ℕ) → Option (Option ℕ)
time_named None = Some None
time_named (Some word) = option_map Some (time_of word)
