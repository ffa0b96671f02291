-- What the code's own failures, leaks and rows stand for.
use Rattle.std.specs.Prelude.{◌≡◌, ◌<◌, ℕ, true, false, List, map, slice_get, Some}
use Rattle.pf_model.specs.Meaning.{Report}
use Rattle.pf_model.specs.Properties.{Property}
use Rattle.pf_model.specs.Reports.{view_of_report}
use Rattle.pf_property.specs.Views.{property_of}
use Rattle.pf_hunt.specs.Hunts.{Failures}
use Rattle.pf_hunt.specs.Rows as rows
use Rattle.pf_hunt.specs.Rows.{is_like}
use Rattle.pf_hunt.specs.declared.failure.FailingSeed.{FailingSeed}
use Rattle.pf_hunt.specs.declared.leak.Leak.{Leak}
use Rattle.pf_hunt.specs.declared.row.OutcomeRow.{OutcomeRow}
use Rattle.pf_hunt.specs.declared.seeded.Hunt.{Hunt}
use Rattle.pf_hunt.specs.declared.tally.Tally.{Tally}

abbrev pub failure_of : FailingSeed → ℕ × Report
failure_of f = (f.seed, view_of_report f.report)

-- the further properties of a hunt, and what fails a run by them
abbrev pub further_of : Hunt → List Property
further_of h = map property_of h.further.items

abbrev pub failures_of : Hunt → Failures
failures_of h = record { further = further_of h; leaks = h.leaks }

abbrev pub leak_of : Leak → ℕ × ℕ
leak_of l = (l.seed, l.processes)

abbrev pub row_of : OutcomeRow → rows.OutcomeRow
row_of x = record { verdict = x.verdict; outcome = x.outcome; count = x.count; least = x.least }

abbrev pub rows_in : List OutcomeRow → List rows.OutcomeRow
rows_in xs = map row_of xs

abbrev pub rows_of : Tally → List rows.OutcomeRow
rows_of t = rows_in t.rows.items

-- no row before this index is of the same outcome with the same verdict
abbrev pub NoneBefore : List OutcomeRow → OutcomeRow → ℕ → Type 0
NoneBefore xs y i = (k : ℕ) (x : OutcomeRow) → k < i → slice_get xs k ≡ Some x → is_like (row_of x) (row_of y) ≡ false

-- the first row at this index that is of the same outcome with the same verdict
abbrev pub IsFirstLike : List OutcomeRow → OutcomeRow → ℕ → Type 0
IsFirstLike xs y i = NoneBefore xs y i × ((x : OutcomeRow) × (slice_get xs i ≡ Some x)
    × (is_like (row_of x) (row_of y) ≡ true))
