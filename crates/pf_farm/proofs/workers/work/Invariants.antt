use Rattle.std.proofs.Common.{◌≡◌, false}
use Rattle.pf_farm.specs.Seats.{SameEnds}
use Rattle.pf_farm.proofs.workers.work.Given as goal

abbrev pub invariant-works : goal.invariant-works
invariant-works g l = (goal.iterator-works g).can_next l.iterator' × (goal.iterator-works g).is_finite l.iterator'
    × SameEnds l.fn.seat l.seat × (l.seat.busy ≡ false)
