-- The text of a schedule.
use Rattle.std.specs.Prelude.{ℕ, List, [], ◌∷◌, ◌++◌, codes}
use Rattle.std.specs.Fmt.{decimal}

-- numbers with commas between them, or `none`
abbrev pub numbers_text : ℕ → List ℕ → List ℕ
numbers_text n [] = decimal n
numbers_text n (m ∷ ms) = decimal n ++ codes "," ++ numbers_text m ms

abbrev pub schedule_text : List ℕ → List ℕ
schedule_text [] = codes "none"
schedule_text (n ∷ ns) = numbers_text n ns
