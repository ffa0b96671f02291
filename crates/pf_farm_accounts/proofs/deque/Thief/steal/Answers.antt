use Rattle.pf_farm_accounts.proofs.DequeSteps.{steals}
use Rattle.std.proofs.Common.{rules}
use Rattle.pf_farm_accounts.proofs.deque.Thief.steal.Goals as goal

pub steal_as-requires-clause-takes : goal.steal_as-requires-clause-takes
steal_as-requires-clause-takes g c = steals _ _ (search rules)
