use Rattle.pf_protocol.proofs.Splitting.{parts_cut}
use Rattle.pf_protocol.proofs.split.first_part.Goals as goal

pub returns : goal.returns
returns c = parts_cut c.args.at c.args.text.now c.split.result c.split.ensures
