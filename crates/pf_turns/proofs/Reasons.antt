-- The reason with which a process ends.
use Rattle.std.proofs.Common.{◌≡◌, sym, ◌∙◌}
use Rattle.pf_terms.specs.Value.{Value, list, none, IsWithinLimits}
use Rattle.pf_terms.specs.Fixed.{system_limit}
use Rattle.pf_ops.specs.Reasons as reasons
use Rattle.pf_loop.proofs.Limits.{fits_or, too_large_or}

pub ending_ok : (v u : Value) → u ≡ reasons.pair v (list none) → ¬ ¬ IsWithinLimits (reasons.pair v (list none))
    → u ≡ reasons.ending_reason v
ending_ok v u e w =
    e ∙ sym (fits_or (reasons.pair v (list none)) (reasons.pair v (list none))
    (reasons.pair system_limit (list none)) w)

pub ending_limit : (v u : Value) → u ≡ reasons.pair system_limit (list none)
    → ¬ IsWithinLimits (reasons.pair v (list none)) → u ≡ reasons.ending_reason v
ending_limit v u e w = e
    ∙ sym (too_large_or (reasons.pair v (list none)) (reasons.pair v (list none))
    (reasons.pair system_limit (list none)) w)
