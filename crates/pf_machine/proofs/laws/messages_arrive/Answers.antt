use Rattle.pf_machine.proofs.Stayed.{arrives}
use Rattle.pf_machine.proofs.laws.messages_arrive.Goals as goal

pub returns : goal.returns
returns c = arrives
