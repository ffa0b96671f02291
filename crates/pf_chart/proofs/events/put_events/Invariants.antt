use Rattle.std.proofs.Common.{take}
use Rattle.pf_terms.specs.Atoms.{name_of}
use Rattle.pf_chart.proofs.Charts.{of_rows}
use Rattle.pf_chart.specs.Words.{DrawsInChart}
use Rattle.pf_chart.proofs.events.put_events.Given as goal

-- the labels of the events so far are drawn
abbrev pub invariant-loop-place : goal.invariant-loop-place
invariant-loop-place l = DrawsInChart (of_rows (name_of l.atoms) (take l.place l.rows)) l.fn.svg l.svg
