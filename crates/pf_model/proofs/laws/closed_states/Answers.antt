use Rattle.pf_model.proofs.Closed as closed
use Rattle.pf_model.proofs.laws.closed_states.Goals as goal

pub returns : goal.returns
returns g c = closed.closed_states_stay_closed _
