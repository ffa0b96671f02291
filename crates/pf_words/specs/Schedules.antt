-- Which schedule a text has.
use Rattle.std.specs.Prelude.{ℕ, nat_eq, List, [], ◌∷◌, drop, Option, Some, None, unwrap_or, codes, if◌then◌else◌}
use Rattle.std.specs.List.{starts_with}
use Rattle.std.specs.Str.{trim_end}
use Rattle.std.specs.Str.Lines.{lines}

-- what a line has after `schedule `, if it begins so
abbrev pub reported_in : (line : List ℕ) → Option (List ℕ)
reported_in line = if starts_with nat_eq line (codes "schedule ") then Some (drop 9 line) else None

-- what the last of these lines that begins so has; else this
unfoldable pub last_reported : (else_reported : List ℕ) → (lines : List (List ℕ)) → List ℕ
last_reported else_reported [] = else_reported
last_reported else_reported (line ∷ lines) = last_reported (unwrap_or (reported_in line) else_reported) lines

-- the answer of a hunt or of a shrinking has a line that begins so; any other text is the schedule itself, without the
-- blanks at its end
unfoldable pub schedule_in : (text : List ℕ) → List ℕ
schedule_in text = last_reported (trim_end text) (lines text)
