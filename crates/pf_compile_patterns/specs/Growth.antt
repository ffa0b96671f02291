-- How code grows: at its end, with nothing changed.
use Rattle.std.specs.Prelude.{◌≡◌, ◌<◌, ◌≤◌, ◌+◌, ℕ, length, Some, slice_get}
use Rattle.pf_terms.specs.Value.{Value}
use Rattle.pf_model.specs.Module.{Module}
use Rattle.pf_model.specs.Context.{Frame}
use Rattle.std.specs.Prelude.{List}
use Rattle.pf_code.specs.Points.{Point}
use Rattle.pf_code.specs.Sound.{Code, IsSoundAt}
use Rattle.pf_code.specs.declared.instruction.Instruction.{Instruction}
use Rattle.pf_compile_patterns.specs.Maker.{IsPlace}

-- all that is in a is at its place in b
pub record Extends (a b : Code) : Type 0 where
  pub longer : length a.instructions ≤ length b.instructions
  pub instructions : (pc : ℕ) (i : Instruction) → slice_get a.instructions pc ≡ Some i
      → slice_get b.instructions pc ≡ Some i
  pub constants : (k : ℕ) (v : Value) → slice_get a.constants k ≡ Some v → slice_get b.constants k ≡ Some v

-- an instruction was added at this place
pub record Pushed (old new : Code) (i : Instruction) (pc : ℕ) : Type 0 where
  pub grown : Extends old new
  pub last : pc ≡ length old.instructions
  pub count : length new.instructions ≡ length old.instructions + 1
  pub is : slice_get new.instructions pc ≡ Some i

-- a constant was added, with this number
pub record ConstantPut (old new : Code) (v : Value) (k : ℕ) : Type 0 where
  pub grown : Extends old new
  pub is : slice_get new.constants k ≡ Some v

-- the place before this one goes on as code that is sound for the point at `next`
abbrev pub ComesTo : Code → ℕ → ℕ → Type 0
ComesTo code next pc = (m : Module) (own : ℕ) (outer : List Frame) (later : Code) (n : Point) → Extends code later
    → IsSoundAt m own outer later next n → (b : ℕ) × (pc ≡ b + 1) × IsSoundAt m own outer later b n

-- what is added next goes on at `next`
pub record Reached (old new : Code) (next : ℕ) : Type 0 where
  pub grown : Extends old new
  pub comes : ComesTo new next (length new.instructions)

-- an instruction was added at this place that goes on at `next`
pub record Put (old new : Code) (i : Instruction) (next pc : ℕ) : Type 0 where
  pub grown : Extends old new
  pub above : length old.instructions ≤ pc
  pub there : pc < length new.instructions
  pub is : slice_get new.instructions pc ≡ Some i
  pub comes : ComesTo new next pc

-- code grew, and whatever it becomes, this holds there for all processes and frames of activations
pub record Made (old new : Code) (pc : ℕ) (means : ℕ → List Frame → Code → Type 0) : Type 0 where
  pub grown : Extends old new
  pub place : IsPlace new pc
  pub meant : (own : ℕ) (outer : List Frame) (later : Code) → Extends new later → means own outer later
