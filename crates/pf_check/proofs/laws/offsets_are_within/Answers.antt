use Rattle.pf_check.proofs.Within.{offset_within}
use Rattle.pf_check.proofs.laws.offsets_are_within.Goals as goal

pub returns : goal.returns
returns c = λ bytes ts offset has there. offset_within bytes ts offset has there
