use Rattle.pf_desks.proofs.Numbered.{counted}
use Rattle.pf_desks.proofs.laws.no_number_twice.Goals as goal

pub returns : goal.returns
returns c = counted
