use Rattle.pf_loop.proofs.Reached.{cuts}
use Rattle.pf_loop.proofs.laws.cuts_are_steps.Goals as goal

pub returns : goal.returns
returns c = cuts
