use Rattle.pf_world.proofs.Noted as proved
use Rattle.pf_world.proofs.laws.histories_note_the_calls.Goals as goal

pub returns : goal.returns
returns c = proved.histories_note_the_calls
