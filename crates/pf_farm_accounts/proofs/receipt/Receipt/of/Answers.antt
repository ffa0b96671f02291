use Rattle.std.proofs.Common.{ap}
use Rattle.pf_farm_accounts.specs.Receipts.{receipt_of}
use Rattle.pf_farm_accounts.proofs.receipt.Receipt.of.Goals as goal

pub returns : goal.returns
returns g c = ap (λ reply. receipt_of c.args.project c.args.number c.args.call.value reply) c.of.ensures
