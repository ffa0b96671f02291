use Rattle.pf_hunt.specs.Hunts.{fails}
use Rattle.pf_hunt.proofs.Firsts.{one_first}
use Rattle.pf_hunt.proofs.laws.one_first.Goals as goal

pub returns : goal.returns
returns c leaks = one_first (fails leaks)
