use Rattle.std.proofs.Common.{◌≡◌, map, take}
use Rattle.std.specs.List.{filter}
use Rattle.pf_model.specs.Reports.{view_of_event}
use Rattle.pf_chart.specs.Chart.{has_row, rows_from}
use Rattle.pf_chart.specs.Rows.{star_labels_of}
use Rattle.pf_chart.specs.Stars.{after, star_at}
use Rattle.pf_chart.specs.declared.stars.Runner.TheVariants as runner
use Rattle.pf_chart.proofs.rows.rows_of.Given as goal

-- the rows so far are those of the events so far
abbrev pub invariant-loop-index : goal.invariant-loop-index
invariant-loop-index l = record {
  events : map (λ r. view_of_event r.event.now) l.rows.items ≡ filter (has_row l.compact)
      (map view_of_event (take l.index l.events));
  places : map (λ r. r.index) l.rows.items ≡ rows_from l.compact 0 (map view_of_event (take l.index l.events));
  runner : l.runner ≡ after runner.Nobody (map view_of_event (take l.index l.events));
  stars : map star_labels_of l.rows.items ≡ map (λ r. star_at (map view_of_event l.events) r.index) l.rows.items;
}
