-- Which clients wait, by slot.
use Rattle.std.specs.Prelude.{ℕ, ◌+◌, ◌-◌, ◌^◌, ◌||◌, ◌&&◌, Bool, if◌then◌else◌, min, nat_eq, nat_lt}
use Rattle.pf_farm.specs.declared.waiting.WaitingSlot.{WaitingSlot}

-- one more waits in a slot; where another waits too, for any ticket
abbrev pub entered : WaitingSlot → (ticket : ℕ) → WaitingSlot
entered s ticket = record { count = min (s.count + 1) (2 ^ 32 - 1); ticket = if nat_eq s.count 0 then ticket else 0 }

-- one of them waits no more, and the others for any ticket
abbrev pub left : WaitingSlot → WaitingSlot
left s = record { count = s.count - 1; ticket = 0 }

-- somebody waits there, for this ticket or for any
abbrev pub awaits : WaitingSlot → (ticket : ℕ) → Bool
awaits s ticket = nat_lt 0 s.count && (nat_eq s.ticket 0 || nat_eq s.ticket ticket)
