use Rattle.pf_hunt.proofs.Leaking.{one_leak}
use Rattle.pf_hunt.proofs.laws.one_leak.Goals as goal

pub returns : goal.returns
returns c = one_leak
