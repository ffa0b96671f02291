use Rattle.pf_check.proofs.Same.{same_outcome}
use Rattle.pf_check.proofs.laws.one_outcome.Goals as goal

pub returns : goal.returns
returns c = λ bytes o p a b. same_outcome bytes o p a b
