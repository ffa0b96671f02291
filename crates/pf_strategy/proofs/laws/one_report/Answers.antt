use Rattle.pf_strategy.proofs.Meant as meant
use Rattle.pf_strategy.proofs.laws.one_report.Goals as goal

pub returns : goal.returns
returns c = meant.one_report
