use Rattle.pf_hints.proofs.Fillers.{fixed_again, fixed_not}
use Rattle.pf_hints.proofs.fixing.blank.Goals as goal

pub loop-at-init : goal.loop-at-init
loop-at-init c = fixed_not _

pub loop-at-preserved : goal.loop-at-preserved
loop-at-preserved c = fixed_again _ _ _ c.loop-at.invariant c.blank_byte.ensures
