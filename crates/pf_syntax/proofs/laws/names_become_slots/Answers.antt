use Rattle.pf_syntax.proofs.laws.names_become_slots.Goals as goal
use Rattle.pf_syntax.proofs.Worked as worked

pub returns : goal.returns
returns c = worked.names_become_slots
