-- What holds of the objects of all texts.
use Rattle.std.specs.Prelude.{◌≡◌, ◌==◌, ℕ, Bool, List, ◌++◌}
use Rattle.std.specs.List.{count_by}
use Rattle.pf_json.specs.Lines.{HeldText, held_after, objects_from}

-- the objects of a text are those of its pieces, the second of which begins with what is held after the first
abbrev pub InPieces : Type 0
InPieces = (h : HeldText) (front back : List ℕ)
    → (objects_from h (front ++ back) ≡ objects_from h front ++ objects_from (held_after h front) back)
    × (held_after h (front ++ back) ≡ held_after (held_after h front) back)

abbrev pub is_line_end : ℕ → Bool
is_line_end b = b == 10

-- the objects of a text have as many line ends as the text: there is one object for each line that ends, on a line of
-- its own
abbrev pub OneForEach : Type 0
OneForEach = (h : HeldText) (text : List ℕ) → count_by is_line_end (objects_from h text) ≡ count_by is_line_end text
