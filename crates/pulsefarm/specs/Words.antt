-- The words of a command line as they are read.
use Rattle.std.specs.Prelude.{ℕ, List, [], ◌∷◌, ◌++◌, codes, if◌then◌else◌}
use Rattle.std.specs.Str.{bytes_eq}

-- `help WORD` asks for what `WORD --help` does
abbrev pub asked_by : (given : List (List ℕ)) → List (List ℕ)
asked_by [] = []
asked_by (first ∷ rest) = if bytes_eq first (codes "help") then rest ++ (codes "--help" ∷ []) else first ∷ rest

-- the program's name is first
abbrev pub words_of : (given : List (List ℕ)) → List (List ℕ)
words_of given = codes "pulsefarm" ∷ asked_by given
