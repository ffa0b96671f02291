use Rattle.pf_chart.proofs.Spawned.{same_processes}
use Rattle.pf_chart.proofs.layout.Layout.end.Goals as goal

pub returns : goal.returns
returns c = record { processes = same_processes _ _ c.end_in.ensures; sends = c.end.ensures }
