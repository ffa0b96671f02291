-- Modules with the sources that they were read from.
use Rattle.std.specs.Prelude.{ℕ, List}
use Rattle.pf_model.specs.Module.{Module}

-- a module with its source
pub record ReadModule : Type 0 where
  pub source : List ℕ
  pub code : Module
