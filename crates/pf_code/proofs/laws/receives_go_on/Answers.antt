use Rattle.pf_code.proofs.Tested.{goes_on_receiving}
use Rattle.pf_code.proofs.laws.receives_go_on.Goals as goal

pub returns : goal.returns
returns c = goes_on_receiving
