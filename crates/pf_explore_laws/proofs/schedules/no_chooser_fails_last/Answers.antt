use Rattle.pf_explore_laws.proofs.Last as last
use Rattle.pf_explore_laws.proofs.schedules.no_chooser_fails_last.Goals as goal

pub returns-clause-some : goal.returns-clause-some
returns-clause-some g c = last.some_schedule _

pub returns-clause-none : goal.returns-clause-none
returns-clause-none g c = last.no_chooser_fails_last _
