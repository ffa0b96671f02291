-- The code of functions and of a module.
use Rattle.std.specs.Prelude.{ℕ, List, map}
use Rattle.pf_terms.specs.Term.{value_of}
use Rattle.pf_syntax.specs.Tree.{Function, FunctionClause}
use Rattle.pf_model.specs.Module.{Module}
use Rattle.pf_model.specs.Contraction.{Becomes, picked_by_all}
use Rattle.pf_model.specs.Context.{Frame}
use Rattle.pf_code.specs.Registers.{row, DependsBelow}
use Rattle.pf_code.specs.Points.{Point, inside}
use Rattle.pf_code.specs.Sound.{Code, IsSoundAt}
use Rattle.pf_code.specs.Simulation.{entered_with}
use Rattle.pf_compile.specs.declared.functions.Program.{Program}
use Rattle.pf_compile_patterns.specs.Tests.{chosen}

-- code of clauses on the first n registers
abbrev pub PicksAll : Module → List FunctionClause → ℕ → ℕ → ℕ → ℕ → List Frame → Code → Type 0
PicksAll m ks n otherwise pc own outer later = (o : Point) → DependsBelow n o → IsSoundAt m own outer later otherwise o
    → IsSoundAt m own outer later pc
    (λ r. chosen (picked_by_all m own ks (row r 0 n)) (λ b. inside outer (Becomes b)) (o r))

-- the place where a function begins
abbrev pub Enters : Module → Function → ℕ → ℕ → List Frame → Code → Type 0
Enters m f pc own outer later = IsSoundAt m own outer later pc (entered_with m own outer f)

abbrev pub program_code : Program → Code
program_code p = record { instructions = p.instructions.items; constants = map value_of p.constants.items }
