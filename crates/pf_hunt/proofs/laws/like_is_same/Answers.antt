use Rattle.pf_hunt.proofs.Counting.{like_is_same}
use Rattle.pf_hunt.proofs.laws.like_is_same.Goals as goal

pub returns : goal.returns
returns c = like_is_same
