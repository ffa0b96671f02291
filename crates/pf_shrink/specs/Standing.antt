-- How a search is kept: its round, a phase, and the runs that are left.
use Rattle.std.specs.Prelude.{◌≡◌, ℕ, zero, suc, ◌<◌, false, [], Some, None}
use Rattle.pf_model.specs.Shrinking.{found}
use Rattle.pf_shrink.specs.Hunts.{Hunting, begins, ended, searching}
use Rattle.pf_shrink.specs.Rounds.{Round, AreSmaller}
use Rattle.pf_shrink.specs.declared.hunt.Phase.{Phase}
use Rattle.pf_shrink.specs.declared.hunt.Phase.TheVariants.{Given, Search, Partial, Nothing}

-- the search, with n runs left
abbrev pub standing : (runs : ℕ) → Phase → Round → Hunting
standing zero Given r = ended None
standing (suc k) Given r = begins k r.schedule
standing k Search r = searching k r.schedule r.left
standing k Partial r = ended (Some (found r.schedule false))
standing k Nothing r = ended None

-- a round has candidates left only within a search, and only while there are runs; they are smaller than its schedule
abbrev pub IsRoundOf : (runs : ℕ) → Phase → Round → Type 0
IsRoundOf k Given r = (0 < k) × (r.left ≡ [])
IsRoundOf zero Search r = r.left ≡ []
IsRoundOf (suc k) Search r = AreSmaller r
IsRoundOf k Partial r = r.left ≡ []
IsRoundOf k Nothing r = Unit {0}
