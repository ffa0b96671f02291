use Rattle.pf_errors.proofs.Ranks.{rank_apart}
use Rattle.pf_errors.proofs.laws.codes_are_apart.Goals as goal

pub returns : goal.returns
returns c = λ one other e. rank_apart one other e
