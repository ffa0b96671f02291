use Rattle.pf_roots.proofs.Kept.{processes_moved}
use Rattle.pf_roots.proofs.laws.processes_move.Goals as goal

pub returns : goal.returns
returns c = processes_moved
