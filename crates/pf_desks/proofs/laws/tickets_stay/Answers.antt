use Rattle.pf_desks.proofs.Jobs as jobs
use Rattle.pf_desks.proofs.laws.tickets_stay.Goals as goal

pub returns : goal.returns
returns c = jobs.tickets_stay
