use Rattle.pf_desks.proofs.Numbered.{legal_counted}
use Rattle.pf_desks.proofs.laws.legal_histories_report_each_once.Goals as goal

pub returns : goal.returns
returns c = legal_counted
