use Rattle.pf_code.proofs.Tested.{none_tested}
use Rattle.pf_code.proofs.laws.none_is_tested.Goals as goal

pub returns : goal.returns
returns c = none_tested
