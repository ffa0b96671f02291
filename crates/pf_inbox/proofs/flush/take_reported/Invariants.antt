use Rattle.std.proofs.Common.{◌≡◌, ◌-◌, length}
use Rattle.pf_inbox.proofs.Flushing.{QuietTo}
use Rattle.pf_inbox.proofs.flush.take_reported.Given as goal

abbrev pub invariant-loop-message : goal.invariant-loop-message
invariant-loop-message l = (l.list.items ≡ l.fn.list.items) × QuietTo l.reference l.list.mark l.fn.list.items

abbrev pub decreases-loop-message : goal.decreases-loop-message
decreases-loop-message l = length l.list.items - l.list.mark
