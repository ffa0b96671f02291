use Rattle.pf_code.proofs.Tested.{messages_tested}
use Rattle.pf_code.proofs.laws.messages_are_tested.Goals as goal

pub returns : goal.returns
returns c = messages_tested
