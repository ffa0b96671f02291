use Rattle.pf_hints.proofs.Fillers.{fixed_again, fixed_not}
use Rattle.pf_hints.proofs.fixing.put_head.Goals as goal

pub loop-piece-init : goal.loop-piece-init
loop-piece-init c = fixed_not _

pub loop-piece-preserved : goal.loop-piece-preserved
loop-piece-preserved c = fixed_again _ _ _ c.loop-piece.invariant c.put_bare.ensures

pub returns-then-is_closed : goal.returns-then-is_closed
returns-then-is_closed c = fixed_again _ _ _ (fixed_again _ _ _ c.loop-piece.invariant c.put_bare.ensures)
    c.put_body.ensures
