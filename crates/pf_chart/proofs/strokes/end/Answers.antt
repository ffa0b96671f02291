use Rattle.std.proofs.Common.{ℕ, ◌≡◌, ap, sym, subst, ◌∙◌}
use Rattle.pf_chart.specs.Pages.{page_in}
use Rattle.pf_chart.specs.Sheets.{beginning_of, column_x, end_by, in_the_air}
use Rattle.pf_chart.proofs.strokes.end.Goals as goal

pub returns-in-Some : goal.returns-in-Some
returns-in-Some c =
    subst (λ o. c.at.result ≡ end_by (page_in c.args.sheet) c.args.arrow.now o)
    (sym c.in-Some.is ∙ c.end.ensures) c.at.ensures

pub returns-in-None : goal.returns-in-None
returns-in-None c =
    let p = page_in c.args.sheet in
    let a = c.args.arrow.now in
    let point = c.in_the_air.ensures ∙ ap (λ from. in_the_air from c.x.result c.pitch.result) c.beginning.ensures
    ∙ ap (λ (x : ℕ). in_the_air (beginning_of p a) x c.pitch.result) c.x.ensures
    ∙ ap (λ (w : ℕ). in_the_air (beginning_of p a) (column_x p.pitch a.to) w) c.pitch.ensures in
    subst (λ o. c.in_the_air.result ≡ end_by p a o) (sym c.in-None.is ∙ c.end.ensures) point
