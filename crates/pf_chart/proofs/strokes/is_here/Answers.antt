use Rattle.std.proofs.Common.{◌≡◌, ℕ, Some, refl, sym, ap, ◌∙◌}
use Rattle.pf_chart.specs.Pages.{page_in}
use Rattle.pf_chart.specs.Sheets.{Page, is_across, is_here_by, side_of}
use Rattle.pf_chart.specs.declared.sheet.PageSide.{PageSide}
use Rattle.pf_chart.specs.declared.sheet.PageSide.TheVariants as side
use Rattle.pf_chart.proofs.strokes.is_here.Goals as goal

here_by : (p : Page) (x : PageSide) (n : ℕ) → (x ≡ side.Here → ⊥) → is_across x (side_of p n) ≡ is_here_by p x (Some n)
here_by p side.Here n h = absurd (h refl)
here_by p side.Above n h = refl
here_by p side.Below n h = refl

pub returns-in_default-Some : goal.returns-in_default-Some
returns-in_default-Some c =
    let p = page_in c.args.sheet in
    let x = c.side.result in
    c.is_across.ensures ∙ ap (is_across x) c.side-in_default-Some.ensures
    ∙ here_by p x c.in_default-Some.event c.in_default-Some.not-Here-0
    ∙ ap (λ (y : PageSide). is_here_by p y (Some c.in_default-Some.event))
    (c.side.ensures ∙ ap (side_of p) c.beginning.ensures)
    ∙ ap (is_here_by p _) (sym c.in_default-Some.is-1 ∙ c.end.ensures)
