use Rattle.pf_chart.specs.Origins.{SameProcesses}
use Rattle.pf_chart.proofs.columns.mark_deadlocked.Given as goal

-- the columns are of the same processes
abbrev pub invariant-loop-pid : goal.invariant-loop-pid
invariant-loop-pid l = SameProcesses l.fn.columns.items l.columns.items
