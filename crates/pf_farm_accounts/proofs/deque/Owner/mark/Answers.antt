use Rattle.pf_farm_accounts.proofs.DequeSteps.{seals}
use Rattle.pf_farm_accounts.proofs.deque.Owner.mark.Goals as goal

pub push_as-requires-clause-pushes : goal.push_as-requires-clause-pushes
push_as-requires-clause-pushes g c = seals _ _ c.self.invariant.0
