-- Deques of parked runs: what goes in and comes out.
use Rattle.std.specs.Prelude.{◌≡◌, ℕ, [], ◌∷◌, ◌++◌, Option, Some, None, Result, Ok, Err}
use Rattle.pf_errors.specs.declared.memory.NoMemory.{NoMemory}
use Rattle.pf_world.specs.World.{ClaimedRun, Hand, Deque}
use Rattle.pf_world.specs.Chores.{deque_effect, from_deque}

-- a deque with the run of a hand after all others, if the hand holds one
abbrev pub with_parked : Deque → Hand → Deque
with_parked rs None = rs
with_parked rs (Some r) = rs ++ r ∷ []

-- Parks rs h x rs' h': the run of a hand is parked; or an allocation failed, and both are as they were
abbrev pub Parks : Deque → Hand → Result Unit NoMemory → Deque → Hand → Type 0
Parks rs h (Ok x) rs' h' = (rs' ≡ with_parked rs h) × (h' ≡ None)
Parks rs h (Err e) rs' h' = (rs' ≡ rs) × (h' ≡ h)

-- TakesOldest q t rs x rs': the oldest run is taken, which is that of a project's ticket; or the oldest is another, or
-- there is none, and all stay
abbrev pub TakesOldest : (project ticket : ℕ) → Deque → Option ClaimedRun → Deque → Type 0
TakesOldest q t rs (Some r) rs' = deque_effect q t rs ≡ Some (from_deque r rs')
TakesOldest q t rs None rs' = (deque_effect q t rs ≡ None) × (rs' ≡ rs)
