use Rattle.pf_chart.proofs.Joined.{AreJoinedTo}
use Rattle.pf_chart.proofs.layout.join_receipts.Given as goal

-- the arrows so far are joined
abbrev pub invariant-loop-index : goal.invariant-loop-index
invariant-loop-index l = AreJoinedTo l.receipts.items l.index l.fn.arrows.items l.arrows.items
