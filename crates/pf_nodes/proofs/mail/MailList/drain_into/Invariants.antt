use Rattle.std.proofs.Common.{◌≡◌, ◌+◌, ◌≤◌, length, min}
use Rattle.pf_nodes.proofs.mail.MailList.drain_into.Given as goal

abbrev pub invariant-loop-self : goal.invariant-loop-self
invariant-loop-self g l =
    (l.self.mark ≡ 0) × (l.pool ≤ 1024) × (min 1024 (l.pool + length l.self.items)
    ≡ min 1024 (l.fn.pool + length l.fn.self.items))

abbrev pub decreases-loop-self : goal.decreases-loop-self
decreases-loop-self g l = length l.self.items
