use Rattle.std.proofs.Common.{rules}
use Rattle.pf_farm_accounts.proofs.DequeSteps.{merges, knows}
use Rattle.pf_farm_accounts.proofs.deque.Owner.close.Goals as goal

pub absorb-requires-clause-rule : goal.absorb-requires-clause-rule
absorb-requires-clause-rule g c = merges _ _ _ _ (search rules) (search rules)

pub len_as-requires : goal.len_as-requires
len_as-requires g c = knows _ _ (search rules) (search rules)
