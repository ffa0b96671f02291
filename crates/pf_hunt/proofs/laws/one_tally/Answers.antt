use Rattle.pf_hunt.proofs.Counting.{one_tally}
use Rattle.pf_hunt.proofs.laws.one_tally.Goals as goal

pub returns : goal.returns
returns c = one_tally
