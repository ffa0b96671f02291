use Rattle.pf_world.proofs.Deleted.{deleted}
use Rattle.pf_world.proofs.laws.deletion.Goals as goal

pub returns : goal.returns
returns c = deleted
