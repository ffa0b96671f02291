use Rattle.pf_steps.proofs.Right.{right}
use Rattle.pf_steps.proofs.laws.profile_is_right.Goals as goal

pub returns : goal.returns
returns c = right
