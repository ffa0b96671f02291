use Rattle.std.proofs.Common.{◌≡◌, take}
use Rattle.pf_positions.specs.Placed.{spots_with_sign}
use Rattle.pf_positions.proofs.Placing.{SoFar}
use Rattle.pf_positions.proofs.places.Positions.put_sign.Given as goal

-- the spots so far have their places, and the rank is how many of them have the sign
abbrev pub invariant-loop-spot : goal.invariant-loop-spot
invariant-loop-spot l = record {
  rank_is : l.rank ≡ spots_with_sign l.number (take l.spot-index l.spots);
  so_far : SoFar l.number l.spots l.written l.spot-index l.self;
}
