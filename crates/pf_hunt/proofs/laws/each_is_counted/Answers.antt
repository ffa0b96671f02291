use Rattle.pf_hunt.proofs.Counting.{each_is_counted}
use Rattle.pf_hunt.proofs.laws.each_is_counted.Goals as goal

pub returns : goal.returns
returns c = each_is_counted
