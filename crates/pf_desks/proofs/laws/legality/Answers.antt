use Rattle.pf_desks.proofs.Histories.{legal}
use Rattle.pf_desks.proofs.laws.legality.Goals as goal

pub returns : goal.returns
returns c = legal
