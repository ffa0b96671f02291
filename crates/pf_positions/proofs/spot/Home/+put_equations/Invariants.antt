use Rattle.std.proofs.Common.{length}
use Rattle.pf_positions.proofs.spot.Home.+put_equations.Given as goal

abbrev pub decreases-put_equations : goal.decreases-put_equations
decreases-put_equations l = length l.ids.now
