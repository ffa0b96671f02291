use Rattle.pf_ties.proofs.Followed.{follow_actions}
use Rattle.pf_ties.proofs.laws.ties_follow_actions.Goals as goal

pub returns : goal.returns
returns c = follow_actions
