-- The names of atoms, by number.
use Rattle.std.specs.Prelude.{ℕ, List, [], ◌∷◌, ◌++◌, slice_index_or, fold, if◌then◌else◌, codes}
use Rattle.std.specs.List.{list_any}
use Rattle.std.specs.Str.{bytes_eq}

-- the name of an atom, empty where the table has none
abbrev pub name_of : List (List ℕ) → ℕ → List ℕ
name_of names a = slice_index_or names a []

-- the names with one that goes last where it is new
abbrev pub with_name : List (List ℕ) → List ℕ → List (List ℕ)
with_name names name = if list_any (bytes_eq name) names then names else names ++ name ∷ []

-- the names after each of these was entered in turn
abbrev pub names_entered : List (List ℕ) → List (List ℕ) → List (List ℕ)
names_entered names more = fold with_name names more

-- the atoms that the system itself makes or asks for
abbrev pub fixed_names : List (List ℕ)
fixed_names =
    codes "true" ∷ codes "false" ∷ codes "undefined" ∷ codes "normal" ∷ codes "kill" ∷ codes "killed" ∷ codes "noproc"
    ∷ codes "process" ∷ codes "EXIT" ∷ codes "DOWN" ∷ codes "badarg" ∷ codes "badarith" ∷ codes "badmatch"
    ∷ codes "case_clause" ∷ codes "function_clause" ∷ codes "if_clause" ∷ codes "system_limit" ∷ codes "undef"
    ∷ codes "trap_exit" ∷ codes "flush" ∷ []
