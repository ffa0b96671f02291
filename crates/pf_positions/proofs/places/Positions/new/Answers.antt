use Rattle.std.proofs.Common.{arith}
use Rattle.pf_positions.proofs.Placing.{all_signs}
use Rattle.pf_positions.proofs.places.Positions.new.Goals as goal

pub returns : goal.returns
returns c =
    let spots = c.in_ok-spots.spots.items in
    let written = c.in_ok-written.written.items in
    record {
      spots = spots;
      are_spots = c.in_ok-spots.ensures;
      written = written;
      are_written = c.in_ok-written.ensures;
      are_among = all_signs c.loop-number.number spots written c.loop-number.places (omega arith)
          c.loop-number.invariant;
    }
