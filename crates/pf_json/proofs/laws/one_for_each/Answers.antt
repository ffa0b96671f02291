use Rattle.pf_json.proofs.Ends.{line_by_line}
use Rattle.pf_json.proofs.laws.one_for_each.Goals as goal

pub returns : goal.returns
returns c = line_by_line
