use Rattle.std.proofs.Common.{sym, ap, ◌∙◌}
use Rattle.pf_chart.specs.Sheets.{row_y, y_at, y_on}
use Rattle.pf_chart.proofs.sheet.Sheet.y.Goals as goal

pub returns-in-Above : goal.returns-in-Above
returns-in-Above c =
    let s = c.args.self.now in
    let n = c.rows_before-before.result in
    ap (y_on s.above s.count n) (sym c.in-Above.is ∙ c.side_at.ensures)
    ∙ ap (y_at s.above s.count) c.rows_before-before.ensures

pub returns-in-Here : goal.returns-in-Here
returns-in-Here c =
    let s = c.args.self.now in
    let n = c.rows_before-before.result in
    c.row_y.ensures ∙ ap row_y c.saturating_sub.ensures
    ∙ ap (y_on s.above s.count n) (sym c.in-Here.is ∙ c.side_at.ensures)
    ∙ ap (y_at s.above s.count) c.rows_before-before.ensures

pub returns-in-Below : goal.returns-in-Below
returns-in-Below c =
    let s = c.args.self.now in
    let n = c.rows_before-before.result in
    c.rows_end.ensures
    ∙ ap (y_on s.above s.count n) (sym c.in-Below.is ∙ c.side_at.ensures)
    ∙ ap (y_at s.above s.count) c.rows_before-before.ensures
