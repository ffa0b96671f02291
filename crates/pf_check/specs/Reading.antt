-- What sources are read as.
use Rattle.std.specs.Prelude.{◌≡◌, ℕ, List, Result, Ok, Err}
use Rattle.pf_errors.specs.declared.refusal.SourceRefusal.{SourceRefusal}
use Rattle.pf_check.specs.Reads.{accepted, refused, Reads}
use Rattle.pf_check.specs.Module.{ReadModule}

-- a source is read as a module
abbrev pub IsReadAs : List ℕ → ReadModule → Type 0
IsReadAs source m = Reads source (accepted m.code.name m.code.atoms m.code.functions)

-- a source of these bytes is this module
abbrev pub IsModuleOf : List ℕ → ReadModule → Type 0
IsModuleOf bytes m = (m.source ≡ bytes) × IsReadAs bytes m

-- a source of these bytes is this module, or is refused for this
abbrev pub IsReading : (bytes : List ℕ) → Result ReadModule SourceRefusal → Type 0
IsReading bytes (Ok m) = IsModuleOf bytes m
IsReading bytes (Err r) = Reads bytes (refused r.code r.offset)
