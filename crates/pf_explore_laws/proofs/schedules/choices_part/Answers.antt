use Rattle.pf_explore_laws.proofs.Parting as parting
use Rattle.pf_explore_laws.proofs.schedules.choices_part.Goals as goal

pub returns-clause-part : goal.returns-clause-part
returns-clause-part c = parting.choices_part

pub returns-clause-same : goal.returns-clause-same
returns-clause-same c = parting.same_choices
