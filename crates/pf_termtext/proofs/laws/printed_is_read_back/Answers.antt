use Rattle.pf_termtext.proofs.Whole.{read_back}
use Rattle.pf_termtext.proofs.laws.printed_is_read_back.Goals as goal

pub returns : goal.returns
returns c = read_back
