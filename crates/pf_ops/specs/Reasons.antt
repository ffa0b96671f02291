-- Terms that the system builds around a value.
use Rattle.std.specs.Prelude.{Bool, ◌&&◌, nat_le, if◌then◌else◌}
use Rattle.pf_terms.specs.declared.limits.TheConstants.{MOST_DEPTH, MOST_NODES}
use Rattle.pf_terms.specs.Value.{Value, tuple, list, none, more, nodes, depth}
use Rattle.pf_terms.specs.Fixed.{badmatch, case_clause, system_limit}

-- whether a value is within the limits
abbrev pub fits_limits : Value → Bool
fits_limits v = nat_le (nodes v) MOST_NODES && nat_le (depth v) MOST_DEPTH

-- {V, W}
abbrev pub pair : Value → Value → Value
pair v w = tuple (more v (more w none))

-- a term that the system builds around an inner value; where it would be too large, `system_limit` stands for that
-- value
abbrev pub built : (Value → Value) → Value → Value
built around v = if fits_limits (around v) then around v else around system_limit

-- {T, V}
abbrev pub tagged : Value → Value → Value
tagged t = built (pair t)

-- {badmatch, V} and {case_clause, V}
abbrev pub no_match : Value → Value
no_match = tagged badmatch

abbrev pub no_case : Value → Value
no_case = tagged case_clause

-- {E, []}: the reason with which a process ends that raised E
abbrev pub ending_reason : Value → Value
ending_reason = built (λ e. pair e (list none))
