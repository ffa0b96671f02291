-- Trials that are dropped.
use Rattle.std.specs.Prelude.{◌≡◌, ℕ, ◌≤◌, length, None}
use Rattle.pf_desks.specs.Desk.{Profile, Desk, held_at}
use Rattle.pf_desks.specs.History.{IsLegalDesk}
use Rattle.pf_farm_laws.specs.ClaimNotes.{IsDropped}

-- a ticket was given, and its trial isn't held any more
abbrev pub IsGone : Desk → ℕ → Type 0
IsGone d t = (1 ≤ t) × (t ≤ length d.trials) × (held_at d.trials t ≡ None)

-- a trial that is gone was dropped, after all its claims
abbrev pub DropsAreNoted : Type 0
DropsAreNoted = (p : Profile) (d : Desk) (t : ℕ) → IsLegalDesk p d → IsGone d t → IsDropped t d.history
