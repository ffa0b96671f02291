use Rattle.std.proofs.Common.{◌≡◌, take, length}
use Rattle.pf_lower.proofs.slots.Slots.truncate.Given as goal

-- the first n are as they were
abbrev pub invariant-loop-self : goal.invariant-loop-self
invariant-loop-self l = take l.len l.self ≡ take l.len l.fn.self

-- each time one leaves
abbrev pub decreases-loop-self : goal.decreases-loop-self
decreases-loop-self l = length l.self
