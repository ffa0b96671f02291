-- Integers of 64 bits, and the operator on one of them.
use Rattle.std.specs.Prelude.{◌^◌, Bool, false, nat_lt, if◌then◌else◌, ℤ, pos, negsuc, neg_ℤ, Option, Some, None}
use Rattle.std.specs.Prelude.{Result, Ok, Err}
use lib.Signed.{mag}
use Rattle.pf_terms.specs.Value.{Value, int}
use Rattle.pf_terms.specs.Fixed.{badarith, system_limit}

-- an integer of 64 bits: `mag z` is z, and -z - 1 where z is below 0. Past them the operation raises
abbrev pub in_range : ℤ → Bool
in_range z = nat_lt (mag z) (2 ^ 63)

abbrev pub ranged : ℤ → Result Value Value
ranged z = if in_range z then Ok (int z) else Err system_limit

abbrev pub is_zero : ℤ → Bool
is_zero (pos n) = nat_lt n 1
is_zero (negsuc n) = false

abbrev pub integer_of : Value → Option ℤ
integer_of (int z) = Some z
integer_of v = None

abbrev pub on_operand : Option ℤ → Result Value Value
on_operand None = Err badarith
on_operand (Some z) = ranged (neg_ℤ z)

-- unary minus
abbrev pub negated : Value → Result Value Value
negated v = on_operand (integer_of v)
