use Rattle.std.proofs.Common.{refl}
use Rattle.pf_system.proofs.Spawning.{reports_it}
use Rattle.pf_system.proofs.spawn.reported.Goals as goal

pub returns : goal.returns
returns c k = reports_it c.args.linked c.args.pid k _ refl refl
