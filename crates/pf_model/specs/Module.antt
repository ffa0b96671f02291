-- A module: what a run is of.
use Rattle.std.specs.Prelude.{ℕ, List, Option}
use Rattle.pf_terms.specs.Atoms.{name_of}
use Rattle.pf_syntax.specs.Tree.{Program}
use Rattle.pf_syntax.specs.Module.{Checked, first_named}
use Rattle.pf_syntax.specs.Root.{exported_at}

-- a module: its name, by its number among its atoms, the names of its atoms, and its functions, each of which it
-- exports or not
pub record Module : Type 0 where
  pub name : ℕ
  pub atoms : List (List ℕ)
  pub functions : Program

-- the name of an atom
abbrev pub name_in : Module → ℕ → List ℕ
name_in m = name_of m.atoms

-- the number of the exported function of this name and number of arguments
abbrev pub exported_as : Module → (name arity : ℕ) → Option ℕ
exported_as m name arity = exported_at m.functions (first_named name arity m.functions)

-- a checked module, as runs know it
abbrev pub module_of : Checked → Module
module_of c = record { name = c.name; atoms = c.atoms; functions = c.functions }
