use Rattle.std.proofs.Common.{◌∙◌}
use Rattle.pf_chart.proofs.Spawned.{same_processes}
use Rattle.pf_chart.proofs.columns.mark_deadlocked.Goals as goal

pub loop-pid-preserved : goal.loop-pid-preserved
loop-pid-preserved c = same_processes _ _ c.mark.ensures ∙ c.loop-pid.invariant
