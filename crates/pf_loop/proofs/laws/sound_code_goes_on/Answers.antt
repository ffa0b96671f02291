use Rattle.pf_loop.proofs.Reached.{goes_on}
use Rattle.pf_loop.proofs.laws.sound_code_goes_on.Goals as goal

pub returns : goal.returns
returns c = goes_on
