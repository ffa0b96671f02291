use Rattle.std.proofs.Common.{rules}
use Rattle.pf_farm_accounts.proofs.Moves.{returns_back, back_below, starts}
use Rattle.pf_farm_accounts.proofs.register.Register.take_back.Goals as goal

pub absorb-requires-clause-rule : goal.absorb-requires-clause-rule
absorb-requires-clause-rule g c = returns_back _ _ _ _ c.self.invariant.1 c.token.invariant.1

pub len_as-requires : goal.len_as-requires
len_as-requires g c = starts _ _ (search rules)

pub len_as-requires-2 : goal.len_as-requires-2
len_as-requires-2 g c = back_below _ _ (search rules)
