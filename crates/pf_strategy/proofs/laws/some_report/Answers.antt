use Rattle.pf_strategy.proofs.Meant as meant
use Rattle.pf_strategy.proofs.laws.some_report.Goals as goal

pub returns-clause-by_priorities : goal.returns-clause-by_priorities
returns-clause-by_priorities c = meant.some_report_by_priorities

pub returns-clause-by_any : goal.returns-clause-by_any
returns-clause-by_any c = meant.some_report
