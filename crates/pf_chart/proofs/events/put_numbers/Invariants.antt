use Rattle.std.proofs.Common.{take}
use Rattle.pf_chart.proofs.Charts.{of_stars}
use Rattle.pf_chart.specs.Words.{DrawsInChart}
use Rattle.pf_chart.proofs.events.put_numbers.Given as goal

-- the stars so far are drawn
abbrev pub invariant-loop-place : goal.invariant-loop-place
invariant-loop-place l = DrawsInChart (of_stars (take l.place l.rows)) l.fn.svg l.svg
