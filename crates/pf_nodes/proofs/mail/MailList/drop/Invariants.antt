use Rattle.std.proofs.Common.{◌≡◌, length}
use Rattle.pf_nodes.proofs.mail.MailList.drop.Given as goal

abbrev pub invariant-loop-self : goal.invariant-loop-self
invariant-loop-self g l = l.self.mark ≡ 0

abbrev pub decreases-loop-self : goal.decreases-loop-self
decreases-loop-self g l = length l.self.items
