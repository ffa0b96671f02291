use Rattle.pf_chart.specs.Chart.{copies}
use Rattle.pf_chart.specs.Origins.{labels_of_origin}
use Rattle.pf_chart.specs.Words.{DrawsInChart}
use Rattle.pf_chart.proofs.heads.put_heads.Given as goal

-- the labels of the heads so far are drawn
abbrev pub invariant-loop-index : goal.invariant-loop-index
invariant-loop-index l = DrawsInChart (copies l.index (labels_of_origin l.origin)) l.fn.svg l.svg
