-- The surroundings in which code is made.
use Rattle.std.specs.Prelude.{ℕ, List}
use Rattle.pf_model.specs.Module.{Module, module_of}
use Rattle.pf_syntax.specs.Module.{Tables}
use Rattle.pf_code.specs.Sound.{Code}
use Rattle.pf_compile_patterns.specs.declared.scope.Scope.{Scope}
use Rattle.pf_compile_patterns.specs.declared.scope.Exits.{Exits}
use Rattle.pf_compile_patterns.specs.Maker.{IsPlace}

abbrev pub tables_in : Scope → Tables
tables_in s = s.code.now.tables

abbrev pub model_in : Scope → Module
model_in s = module_of s.code.now

abbrev pub slots_in : Scope → List ℕ
slots_in s = s.slots.now

abbrev pub AreExits : Code → Exits → Type 0
AreExits code e = IsPlace code e.next × IsPlace code e.otherwise
