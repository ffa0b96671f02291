-- The JSON objects of the lines of a text.
use Rattle.std.specs.Prelude.{ℕ, ◌==◌, if◌then◌else◌, List, [], ◌∷◌, ◌++◌}
use Rattle.pf_json.specs.Objects.{facts_at, next, object_line}
use Rattle.pf_json.specs.declared.place.LinePlace.{LinePlace}
use Rattle.pf_json.specs.declared.place.LinePlace.TheVariants.{Report}

-- how far a writer is: the place of the line that it is in, and what of that line was written
pub record HeldText : Type 0 where
  pub place : LinePlace
  pub line : List ℕ

-- nothing was written yet
abbrev pub nothing_written : HeldText
nothing_written = record { place = Report; line = [] }

abbrev pub with_byte : HeldText → ℕ → HeldText
with_byte h b = record h { line = h.line ++ b ∷ [] }

abbrev pub after_line : HeldText → HeldText
after_line h = record { place = next h.place h.line; line = [] }

-- the objects of the lines that end in a text, the first of which begins with what is held
abbrev pub objects_from : HeldText → List ℕ → List ℕ
objects_from h [] = []
objects_from h (b ∷ text) =
    if b == 10 then object_line (facts_at h.place h.line) ++ objects_from (after_line h) text
    else objects_from (with_byte h b) text

-- what is held after a text
abbrev pub held_after : HeldText → List ℕ → HeldText
held_after h [] = h
held_after h (b ∷ text) = if b == 10 then held_after (after_line h) text else held_after (with_byte h b) text

-- the objects of the whole lines of a text, one for each, in their order; what comes after the last line end has none
abbrev pub json_lines : List ℕ → List ℕ
json_lines text = objects_from nothing_written text
