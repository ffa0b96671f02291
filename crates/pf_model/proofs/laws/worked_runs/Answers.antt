use Rattle.pf_model.proofs.Worked as worked
use Rattle.pf_model.proofs.laws.worked_runs.Goals as goal

pub returns : goal.returns
returns c = worked.worked_runs
