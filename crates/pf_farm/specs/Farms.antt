-- What contracts see of a farm.
use Rattle.std.specs.Prelude.{◌≡◌, ◌<◌, ℕ}
use Rattle.pf_errors.specs.declared.fault.OrNoMemory.{OrNoMemory}
use Rattle.pf_errors.specs.declared.fault.OrNoMemory.TheVariants.{Fault, NoMemory}
use Rattle.pf_farm.specs.declared.farm.NoSeat.{NoSeat}
use Rattle.pf_farm.specs.declared.farm.TheConstants.{MOST_SEATS}

-- how many workers it has, and how many seats it gave to clients
pub record FarmView : Type 0 where
  pub workers : ℕ
  pub given : ℕ

abbrev pub opened_farm : (workers given : ℕ) → FarmView
opened_farm workers given = record { workers = workers; given = given }

-- a seat is refused where as many were given as may be; memory runs out only where fewer were
abbrev pub LacksSeat : OrNoMemory NoSeat → FarmView → Type 0
LacksSeat (Fault e) f = f.given ≡ MOST_SEATS
LacksSeat NoMemory f = f.given < MOST_SEATS
