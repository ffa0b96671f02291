use Rattle.pf_ties.proofs.Followed.{follow_ends}
use Rattle.pf_ties.proofs.laws.ties_follow_ends.Goals as goal

pub returns : goal.returns
returns c = follow_ends
