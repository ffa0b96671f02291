use Rattle.pf_code.proofs.Many as many
use Rattle.pf_code.proofs.laws.runs_are_steps.Goals as goal

pub returns : goal.returns
returns c = many.runs_are_steps
