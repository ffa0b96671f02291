use Rattle.pf_desks.proofs.Within.{legal_within}
use Rattle.pf_desks.proofs.laws.legal_desks_are_in_limits.Goals as goal

pub returns : goal.returns
returns c = legal_within
