use Rattle.pf_model.proofs.Meanings as meanings
use Rattle.pf_model.proofs.laws.one_report.Goals as goal

pub returns : goal.returns
returns g c = meanings.one_report _
