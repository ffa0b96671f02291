use Rattle.pf_machine.proofs.Stayed.{stays}
use Rattle.pf_machine.proofs.laws.status_stays.Goals as goal

pub returns : goal.returns
returns c = stays
