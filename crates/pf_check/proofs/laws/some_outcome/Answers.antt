use Rattle.pf_check.proofs.AnyOutcome.{any_outcome}
use Rattle.pf_check.proofs.laws.some_outcome.Goals as goal

pub returns : goal.returns
returns c = λ bytes. any_outcome bytes
