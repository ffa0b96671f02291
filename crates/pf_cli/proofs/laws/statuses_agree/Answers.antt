use Rattle.std.proofs.Common.{None}
use Rattle.pf_cli.proofs.Alike.{fault_status}
use Rattle.pf_cli.proofs.laws.statuses_agree.Goals as goal

pub returns : goal.returns
returns c = fault_status None
