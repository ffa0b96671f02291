-- The code that a maker has.
use Rattle.std.specs.Prelude.{◌<◌, ◌≤◌, ℕ, map, length}
use Rattle.pf_terms.specs.Term.{value_of}
use Rattle.pf_code.specs.Sound.{Code}
use Rattle.pf_compile_patterns.specs.declared.maker.Maker.{Maker}

abbrev pub code_of : Maker → Code
code_of a = record { instructions = a.instructions.items; constants = map value_of a.constants.items }

-- a place where code goes on: 0 is none
abbrev pub IsPlace : Code → ℕ → Type 0
IsPlace code pc = (1 ≤ pc) × (pc < length code.instructions)
