-- What the code knows of a row.
use Rattle.std.specs.Prelude.{ℕ, List}
use Rattle.pf_model.specs.Reports.{view_of_event}
use Rattle.pf_chart.specs.Stars.{star_labels}
use Rattle.pf_chart.specs.declared.rows.EventRow.{EventRow}

-- the star of a row
abbrev pub star_labels_of : EventRow → List (List ℕ)
star_labels_of r = star_labels r.has_star (view_of_event r.event.now)
