-- The function that a run begins in.
use Rattle.std.specs.Prelude.{ℕ, List, Option, Some, None, position, slice_get, if◌then◌else◌}
use Rattle.std.specs.Str.{bytes_eq}
use Rattle.pf_syntax.specs.Tree.{Function, Program}
use Rattle.pf_syntax.specs.Module.{first_named}

-- a function by its number, where it is exported
abbrev pub exported_of : ℕ → Option Function → Option ℕ
exported_of i None = None
exported_of i (Some f) = if f.exported then Some i else None

abbrev pub exported_at : Program → Option ℕ → Option ℕ
exported_at functions None = None
exported_at functions (Some i) = exported_of i (slice_get functions i)

-- the function without arguments whose name this atom is, where it is exported
abbrev pub root_at : Program → Option ℕ → Option ℕ
root_at functions None = None
root_at functions (Some a) = exported_at functions (first_named a 0 functions)

-- the number of the exported function of this name without arguments
abbrev pub root_of : List ℕ → List (List ℕ) → Program → Option ℕ
root_of name atoms functions = root_at functions (position (bytes_eq name) atoms)
