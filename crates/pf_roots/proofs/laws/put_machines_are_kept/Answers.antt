use Rattle.pf_roots.proofs.Puts.{put_machines_are_kept}
use Rattle.pf_roots.proofs.laws.put_machines_are_kept.Goals as goal

pub returns : goal.returns
returns c = put_machines_are_kept
