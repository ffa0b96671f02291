use Rattle.std.proofs.Common.{refl}
use Rattle.pf_chart.proofs.Spawned.{same_processes}
use Rattle.pf_chart.proofs.layout.Layout.wait.Goals as goal

pub returns : goal.returns
returns c = record { processes = same_processes _ _ c.wait_in.ensures; traffic = refl }
