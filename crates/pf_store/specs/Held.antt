-- What the fields of the store stand for, and what is true of them.
use Rattle.std.specs.Prelude.{◌≡◌, ℕ, List, map, IfSome}
use Rattle.std.specs.Map.{lookup}
use Rattle.std.specs.Str.{bytes_eq}
use Rattle.pf_check.specs.Reading.{IsReadAs}
use Rattle.pf_store.specs.Sources.{Kept, IsAllHeld}
use Rattle.pf_store.specs.declared.store.StoredModule.{StoredModule}

-- the modules that are kept, each under its source
abbrev pub Modules : Type 0
Modules = List (List ℕ × StoredModule)

abbrev pub kept_in : Modules → Kept
kept_in es = map (λ e. (e.0, e.1.holders)) es

-- the module under a source has it as its source, and is what it is read as
abbrev pub IsStoredAs : List ℕ → StoredModule → Type 0
IsStoredAs source h = (h.module.source ≡ source) × IsReadAs source h.module

-- each source has its module, and somebody holds it
abbrev pub IsValid : Modules → Type 0
IsValid es = ((source : List ℕ) → IfSome (lookup (bytes_eq source) es) (IsStoredAs source)) × IsAllHeld (kept_in es)
