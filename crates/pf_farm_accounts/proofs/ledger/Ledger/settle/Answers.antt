use Rattle.std.proofs.Common.{◌≡◌, length, arith}
use Rattle.pf_farm_accounts.specs.Rows.{count_ended}
use Rattle.pf_farm_accounts.proofs.Ends.{all_ended}
use Rattle.pf_farm_accounts.proofs.ledger.Ledger.settle.Goals as goal

pub returns-clause-ended : goal.returns-clause-ended
returns-clause-ended g c =
    let rows = c.self.inside.rows.items in
    let even : count_ended rows ≡ length rows =
    omega (
      arith,
      c.audit.ensures.whole c.requires.whole.0,
      c.audit-2.ensures.whole c.requires.whole.1,
      c.requires.even,
      c.self.invariant.1,
      c.self.invariant.2,
    ) in
    all_ended rows even
