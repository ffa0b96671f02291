use Rattle.std.proofs.Common.{◌≡◌, false}
use Rattle.pf_farm.specs.Seats.{SameEnds}
use Rattle.pf_farm.proofs.workers.clear.Given as goal

abbrev pub invariant-clears : goal.invariant-clears
invariant-clears g l = (goal.iterator-clears g).can_next l.iterator' × (goal.iterator-clears g).is_finite l.iterator'
    × SameEnds l.fn.seat l.seat × (l.seat.busy ≡ false)
