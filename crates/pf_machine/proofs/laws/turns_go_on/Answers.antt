use Rattle.pf_machine.proofs.InParts.{turns_go_on}
use Rattle.pf_machine.proofs.laws.turns_go_on.Goals as goal

pub returns : goal.returns
returns c = turns_go_on
