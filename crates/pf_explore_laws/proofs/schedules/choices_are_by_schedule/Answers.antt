use Rattle.pf_explore_laws.proofs.Parting as parting
use Rattle.pf_explore_laws.proofs.schedules.choices_are_by_schedule.Goals as goal

pub returns-clause-by : goal.returns-clause-by
returns-clause-by c = parting.choices_are_by_schedule

pub returns-clause-replay : goal.returns-clause-replay
returns-clause-replay c = parting.replay_of_choices
