-- How far a hunt comes.
use Rattle.std.proofs.Common.{◌≡◌, ◌≤◌, ℕ, Bool, true, List, Some, refl, arith}
use Rattle.pf_model.specs.Meaning.{Report}
use Rattle.pf_hunt.specs.Hunts.{SearchedTo, less_far, to_end}
use Rattle.pf_hunt.specs.Notices.{Notice, Searches, found, stops}
use Rattle.pf_hunt.specs.declared.pace.Pace.{Pace}
use Rattle.pf_hunt.specs.declared.pace.Pace.TheVariants.{Longer, Same, Stop}

-- no further than to its end
pub no_further : (may_stop : Bool) (a b c : ℕ) → SearchedTo may_stop a b c → c ≤ b
no_further may_stop a b _ to_end = omega arith
no_further may_stop a b _ (less_far c may past before) = omega (arith, before)

-- only a hunt that may stop does
pub may_stop_then : (may_stop : Bool) (answer : Pace) → stops may_stop answer ≡ true → may_stop ≡ true
may_stop_then may_stop Stop e = e
may_stop_then may_stop Longer e = absurd (cc)
may_stop_then may_stop Same e = absurd (cc)

-- one that finds a seed which fails counts as over
pub over_where_found : (may_stop : Bool) (a b c : ℕ) (p : ℕ × Report) (ns : List Notice)
    → Searches may_stop a b c (Some p) ns → c ≡ b
over_where_found may_stop a b _ _ _ (found c d s r answer ns goes from to within) = refl
