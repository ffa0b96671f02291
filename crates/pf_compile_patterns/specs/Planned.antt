-- The tests of a pattern, and the registers of what it binds.
use Rattle.std.specs.Prelude.{◌≡◌, ◌<◌, ◌≤◌, ℕ, List, [], ◌∷◌, ◌++◌, Option}
use Rattle.pf_model.specs.Module.{Module}
use Rattle.pf_model.specs.Context.{Frame}
use Rattle.pf_patterns.specs.Fit.{ValueScope, fit, fit_all}
use Rattle.pf_syntax.specs.Pattern.{Pattern, Patterns}
use Rattle.pf_code.specs.Registers.{Registers, reg, row, scope_in, DependsBelow}
use Rattle.pf_code.specs.Points.{Point}
use Rattle.pf_code.specs.Sound.{Code}
use Rattle.pf_code.specs.declared.instruction.Operation.{Operation}
use Rattle.pf_compile_patterns.specs.declared.plan.Plan.{Plan}
use Rattle.pf_compile_patterns.specs.Growth.{Extends}
use Rattle.pf_compile_patterns.specs.Tests.{chosen, Carried}

-- these registers are below this one
abbrev pub AreBelow : ℕ → List ℕ → Type 0
AreBelow n [] = Unit {0}
AreBelow n (s ∷ slots) = (s < n) × AreBelow n slots

-- what a pattern asks of registers
abbrev pub Asked : Type 0
Asked = Registers → ValueScope → Option ValueScope

-- of one register, and of a row of them
abbrev pub fit_at : Pattern → ℕ → Asked
fit_at p s r e = fit p (reg r s) e

abbrev pub fit_row : Patterns → ℕ → ℕ → Asked
fit_row ps first n r e = fit_all ps (row r first n) e

-- a plan got tests that lead on where the registers fit, to code that has what was bound in the registers of its slots
pub record Planned (old new : Code) (before after : Plan) (asked : Asked) : Type 0 where
  pub grown : Extends old new
  pub added : List Operation
  pub tests : after.tests.items ≡ before.tests.items ++ added
  pub higher : before.free ≤ after.free
  pub below : AreBelow after.free after.slots.items
  pub leads : (m : Module) (own : ℕ) (outer : List Frame) (later : Code) (otherwise : ℕ) (go : ValueScope → Point)
      (o : Point) → Extends new later → 1 ≤ otherwise → ((e : ValueScope) → DependsBelow before.free (go e))
      → DependsBelow before.free o
      → Carried m own outer later.constants otherwise added
      (λ r. chosen (asked r (scope_in before.slots.items r)) (λ e. go e r) (o r))
      (λ r. go (scope_in after.slots.items r) r) o

-- a plan has these variables, and no test
pub record HasBegun (slots : List ℕ) (free : ℕ) (p : Plan) : Type 0 where
  pub slots_are : p.slots.items ≡ slots
  pub free_is : p.free ≡ free
  pub no_test : p.tests.items ≡ []
