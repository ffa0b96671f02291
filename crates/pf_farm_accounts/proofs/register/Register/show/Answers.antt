use Rattle.std.proofs.Common.{rules}
use Rattle.pf_farm_accounts.proofs.Moves.{borrows, hands_seen, starts}
use Rattle.pf_farm_accounts.proofs.register.Register.show.Goals as goal

pub absorb-requires-clause-rule : goal.absorb-requires-clause-rule
absorb-requires-clause-rule g c = borrows _ _ _ _ (search rules) c.pass.invariant.1

pub len_as-requires : goal.len_as-requires
len_as-requires g c = starts _ _ (search rules)

pub another-pass-requires : goal.another-pass-requires
another-pass-requires g c = hands_seen _ _ (search rules)
