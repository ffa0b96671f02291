use Rattle.std.proofs.Common.{take}
use Rattle.std.specs.Prelude.{flat_map}
use Rattle.pf_chart.specs.Chart.{process_labels}
use Rattle.pf_chart.specs.Origins.{process_of, texts}
use Rattle.pf_chart.specs.Words.{DrawsInChart}
use Rattle.pf_chart.proofs.heads.put_columns.Given as goal

-- the labels of the columns so far are drawn
abbrev pub invariant-loop-index : goal.invariant-loop-index
invariant-loop-index l =
    DrawsInChart (flat_map (λ c. process_labels l.sheet.count l.names.root.now (texts l.names.known.now) (process_of c))
    (take l.index l.columns)) l.fn.svg l.svg
