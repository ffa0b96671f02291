-- Operands: those that have a value in place.
use Rattle.std.specs.Prelude.{◌≡◌, ℕ, Option, Some, None}
use Rattle.pf_terms.specs.Term.{value_of}
use Rattle.pf_terms.specs.declared.term.Term.{Term}
use Rattle.pf_syntax.specs.Tree.{lit, var}
use Rattle.pf_syntax.specs.Module.{Tables}
use Rattle.pf_syntax.specs.Over.{part_over}
use Rattle.pf_syntax.specs.declared.node.Operand.{Operand}
use Rattle.pf_syntax.specs.declared.node.Operand.TheVariants as part
use Rattle.pf_patterns.specs.Fit.{ValueScope}
use Rattle.pf_patterns.specs.Substitution.{sub}

-- an operand that has no value in place: a node, or a variable that is not in scope
abbrev pub HasNoValue : Tables → ValueScope → Operand → Type 0
HasNoValue t e (part.Node n) = Unit {0}
HasNoValue t e p = (x : ℕ) × (sub e (part_over t p) ≡ var x)

-- the value of an operand, None where it has none
abbrev pub IsOperand : Tables → ValueScope → Operand → Option Term → Type 0
IsOperand t e p (Some v) = sub e (part_over t p) ≡ lit (value_of v)
IsOperand t e p None = HasNoValue t e p
