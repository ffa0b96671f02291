use Rattle.pf_positions.specs.Placed.{AreAmongBelow}
use Rattle.pf_positions.proofs.places.Positions.new.Given as goal

-- the places of the signs so far
abbrev pub invariant-loop-number : goal.invariant-loop-number
invariant-loop-number l = AreAmongBelow l.number l.spots.items l.written.items l.places
