use Rattle.pf_cli.proofs.Alone.{alone}
use Rattle.pf_cli.proofs.laws.is_alone.Goals as goal

pub returns : goal.returns
returns c = alone
