use Rattle.pf_desks.proofs.Within.{within}
use Rattle.pf_desks.proofs.laws.stays_in_limits.Goals as goal

pub returns : goal.returns
returns c = within
