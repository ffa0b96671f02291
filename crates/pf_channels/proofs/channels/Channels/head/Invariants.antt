use Rattle.pf_channels.proofs.Heads.{IsSought}
use Rattle.pf_channels.proofs.channels.Channels.head.Given as goal

abbrev pub invariant-loop-row : goal.invariant-loop-row
invariant-loop-row l = IsSought l.row-items l.k l.from l.left l.row-index
