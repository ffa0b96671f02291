use Rattle.std.proofs.Common.{◌≡◌, map, take}
use Rattle.pf_model.specs.Reports.{view_of_event}
use Rattle.pf_chart.specs.Processes.{processes_of}
use Rattle.pf_chart.specs.Origins.{process_of}
use Rattle.pf_chart.proofs.columns.spawned_in.Given as goal

-- the columns so far are those of the events so far
abbrev pub invariant-loop-row : goal.invariant-loop-row
invariant-loop-row l = map process_of l.columns.items ≡ processes_of (map view_of_event (take l.row l.events))
