use Rattle.pf_farm_accounts.proofs.DequeSteps.{pops, finds}
use Rattle.pf_farm_accounts.proofs.deque.Owner.pop.Goals as goal

pub pop_as-requires-clause-fifo : goal.pop_as-requires-clause-fifo
pop_as-requires-clause-fifo g c = λ _. pops _ _ c.self.invariant.0

pub pop_as-requires-clause-empty : goal.pop_as-requires-clause-empty
pop_as-requires-clause-empty g c = finds _ _ c.self.invariant.0
