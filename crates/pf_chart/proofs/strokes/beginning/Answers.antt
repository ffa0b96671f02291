use Rattle.std.proofs.Common.{ℕ, ◌-◌, ◌≡◌, ap, sym, subst, ◌∙◌}
use Rattle.pf_chart.specs.Pages.{page_in}
use Rattle.pf_chart.specs.Sheets.{beginning_by, column_x}
use Rattle.pf_chart.proofs.strokes.beginning.Goals as goal

pub returns-in-In : goal.returns-in-In
returns-in-In c = subst (λ st. c.at.result ≡ beginning_by (page_in c.args.sheet) c.args.arrow.now.from st)
    (sym c.in-In.is) c.at.ensures

pub returns-in-Above : goal.returns-in-Above
returns-in-Above c =
    let column = c.args.arrow.now.from in
    let point = ap (λ (x : ℕ). (x, c.saturating_sub.result)) c.x.ensures
    ∙ ap (λ (y : ℕ). (column_x c.args.sheet.pitch column, y))
    (c.saturating_sub.ensures ∙ ap (λ (y : ℕ). y - 13) c.y.ensures) in
    subst (λ st. (c.x.result, c.saturating_sub.result) ≡ beginning_by (page_in c.args.sheet) column st)
    (sym c.in-Above.is) point
