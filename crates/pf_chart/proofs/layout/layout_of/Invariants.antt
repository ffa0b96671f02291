use Rattle.std.proofs.Common.{map}
use Rattle.std.specs.List.Sorted.{IsPermutation}
use Rattle.pf_model.specs.Reports.{view_of_report}
use Rattle.pf_chart.specs.Laid.{IsLaid}
use Rattle.pf_chart.specs.Origins.{process_of}
use Rattle.pf_chart.specs.Processes.{processes_of}
use Rattle.pf_chart.proofs.layout.layout_of.Given as goal

-- the columns are those of the processes of the run, and the signals so far are laid out
abbrev pub invariant-loop-row : goal.invariant-loop-row
invariant-loop-row l = record {
  processes : IsPermutation (processes_of (view_of_report l.report).events) (map process_of l.layout.columns.items);
  laid : IsLaid (view_of_report l.report).events l.row l.layout;
}
