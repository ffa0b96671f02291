-- Operands without a value.
use Rattle.std.proofs.Common.{◌≡◌, ℕ, ◌-◌, length, None, ap}
use Rattle.std.specs.Prelude.{slice_get}
use Rattle.pf_syntax.specs.Module.{Tables}
use Rattle.pf_syntax.specs.declared.node.Operand.TheVariants as part
use Rattle.pf_patterns.specs.Fit.{ValueScope}
use Rattle.pf_patterns.specs.Substitution.{value_or_var}
use Rattle.pf_patterns.specs.Operands.{HasNoValue}

pub not_bound : (t : Tables) (e : ValueScope) (x : ℕ) → slice_get e x ≡ None → HasNoValue t e (part.Slot x)
not_bound t e x h = (x - length e, ap (λ o. value_or_var o (x - length e)) h)
