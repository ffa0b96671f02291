use Rattle.pf_turns.proofs.Stayed.{stayed}
use Rattle.pf_turns.proofs.laws.processes_stay.Goals as goal

pub returns : goal.returns
returns c = stayed
