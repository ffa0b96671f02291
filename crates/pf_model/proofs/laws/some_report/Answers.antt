use Rattle.pf_model.proofs.Meanings as meanings
use Rattle.pf_model.proofs.laws.some_report.Goals as goal

pub returns : goal.returns
returns g c = meanings.some_report _
