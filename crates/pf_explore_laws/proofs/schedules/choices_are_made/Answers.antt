use Rattle.pf_explore_laws.proofs.Parting as parting
use Rattle.pf_explore_laws.proofs.schedules.choices_are_made.Goals as goal

pub returns-clause-some : goal.returns-clause-some
returns-clause-some c = parting.some_choices

pub returns-clause-of_events : goal.returns-clause-of_events
returns-clause-of_events c = parting.events_are_choices
