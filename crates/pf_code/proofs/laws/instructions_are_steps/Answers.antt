use Rattle.pf_code.proofs.Simulated.{simulated}
use Rattle.pf_code.proofs.laws.instructions_are_steps.Goals as goal

pub returns : goal.returns
returns c = simulated
