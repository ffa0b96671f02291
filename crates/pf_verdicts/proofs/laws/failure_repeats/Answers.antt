use Rattle.pf_verdicts.proofs.Repeating.{failure_repeats}
use Rattle.pf_verdicts.proofs.laws.failure_repeats.Goals as goal

pub returns : goal.returns
returns c = failure_repeats
