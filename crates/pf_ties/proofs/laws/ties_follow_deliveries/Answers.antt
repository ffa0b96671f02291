use Rattle.pf_ties.proofs.Followed.{follow_deliveries}
use Rattle.pf_ties.proofs.laws.ties_follow_deliveries.Goals as goal

pub returns : goal.returns
returns c = follow_deliveries
