-- The refusal of a name.
use Rattle.std.specs.Prelude.{ℕ, List, [], ◌∷◌}
use Rattle.pf_errors.specs.declared.fault.OrNoMemory.{OrNoMemory}
use Rattle.pf_errors.specs.declared.fault.OrNoMemory.TheVariants.{NoMemory, Fault}
use Rattle.pf_ties.specs.declared.refusal.BadArgument.{BadArgument}

-- badarg
abbrev pub bad_argument_text : List ℕ
bad_argument_text = 98 ∷ 97 ∷ 100 ∷ 97 ∷ 114 ∷ 103 ∷ []

-- a refusal comes only where this holds
abbrev pub IsRefusedOnlyIf : Type 0 → OrNoMemory BadArgument → Type 0
IsRefusedOnlyIf P NoMemory = Unit {0}
IsRefusedOnlyIf P (Fault e) = P
