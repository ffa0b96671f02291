use Rattle.std.proofs.Common.{rules}
use Rattle.pf_farm_accounts.proofs.DequeSteps.{pushes}
use Rattle.pf_farm_accounts.proofs.deque.Owner.push.Goals as goal

pub push_as-requires-clause-pushes : goal.push_as-requires-clause-pushes
push_as-requires-clause-pushes g c = pushes _ _ _ c.self.invariant.0 (search rules)
