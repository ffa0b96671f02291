use Rattle.std.proofs.Common.{length}
use Rattle.pf_system.proofs.spare.Spare.keep_all.Given as goal

abbrev pub decreases-loop-slot : goal.decreases-loop-slot
decreases-loop-slot l = length l.slots.items
