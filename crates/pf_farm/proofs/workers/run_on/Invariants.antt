use Rattle.std.proofs.Common.{◌≡◌, true}
use Rattle.pf_farm.specs.Seats.{SameEnds}
use Rattle.pf_farm.proofs.workers.run_on.Given as goal

abbrev pub invariant-goes : goal.invariant-goes
invariant-goes g l = (goal.iterator-goes g).can_next l.iterator' × (goal.iterator-goes g).is_finite l.iterator'
    × SameEnds l.fn.seat l.seat × (l.seat.busy ≡ true)
