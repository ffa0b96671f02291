use Rattle.pf_chart.specs.Chart.{process_labels}
use Rattle.pf_chart.specs.Origins.{process_of, texts}
use Rattle.pf_svg.proofs.Drawn.{grown, in_turn, nothing, renamed, to_end}
use Rattle.pf_chart.proofs.heads.put_columns.Goals as goal

pub loop-index-init : goal.loop-index-init
loop-index-init c = nothing _

pub loop-index-preserved : goal.loop-index-preserved
loop-index-preserved c =
    renamed (grown (λ column. process_labels c.args.sheet.count c.args.names.root.now (texts c.args.names.known.now)
    (process_of column)) c.args.columns.now c.loop-index.index _ c.loop-index-test.true)
    (in_turn c.loop-index.invariant c.in_ok-put_column.ensures)

pub returns : goal.returns
returns c = to_end (λ column. process_labels c.args.sheet.count c.args.names.root.now (texts c.args.names.known.now)
    (process_of column)) c.args.columns.now c.loop-index.index c.loop-index-test.false c.loop-index.invariant
