-- What is true of each module that is read.
use Rattle.std.specs.Prelude.{◌≡◌, ℕ, List, Some}
use Rattle.pf_syntax.specs.Tree.{Program}
use Rattle.pf_syntax.specs.Root.{root_of}
use Rattle.pf_check.specs.Reads.{accepted, Reads}
use Rattle.pf_model.specs.Closed.{HasArity, ModuleIsClosed, RunsStayClosed}

-- it is closed, so no run of it reaches a variable without a value, a call of a function that the module lacks, or a
-- built-in function with another number of arguments
pub record IsClosedModule (S : Type 0) (name : ℕ) (atoms : List (List ℕ)) (functions : Program) : Type 0 where
  pub code : ModuleIsClosed functions
  pub runs : RunsStayClosed S (record { name = name; atoms = atoms; functions = functions })
  -- what a run begins in, by the word that names it, is a function without arguments
  pub roots : (word : List ℕ) (root : ℕ) → root_of word atoms functions ≡ Some root → HasArity functions root 0

-- whatever the states of what chooses
abbrev pub ReadModulesAreClosed : (S : Type 0) → Type 0
ReadModulesAreClosed S = (bytes : List ℕ) (name : ℕ) (atoms : List (List ℕ)) (functions : Program)
    → Reads bytes (accepted name atoms functions)
    → IsClosedModule S name atoms functions
