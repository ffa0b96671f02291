use Rattle.pf_termtext.proofs.Whole.{one_value}
use Rattle.pf_termtext.proofs.laws.no_text_of_two.Goals as goal

pub returns : goal.returns
returns c = one_value
