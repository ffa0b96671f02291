use Rattle.pf_roots.proofs.Kept.{kept_constants}
use Rattle.pf_roots.proofs.laws.kept_constants_are.Goals as goal

pub returns : goal.returns
returns c = kept_constants
