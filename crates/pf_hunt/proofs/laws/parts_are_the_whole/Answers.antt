use Rattle.pf_hunt.proofs.Counting.{parts_are_the_whole}
use Rattle.pf_hunt.proofs.laws.parts_are_the_whole.Goals as goal

pub returns : goal.returns
returns c = parts_are_the_whole
