use Rattle.pf_loop.proofs.Reached.{all_reach}
use Rattle.pf_loop.proofs.laws.runs_reach.Goals as goal

pub returns : goal.returns
returns c = all_reach
