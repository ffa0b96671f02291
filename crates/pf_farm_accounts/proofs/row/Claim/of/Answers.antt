use Rattle.std.proofs.Common.{ap}
use Rattle.pf_farm_accounts.specs.Rows.{claim_of}
use Rattle.pf_farm_accounts.proofs.row.Claim.of.Goals as goal

pub returns : goal.returns
returns g c = ap (λ j. claim_of c.args.project c.args.ticket j) c.of.ensures
