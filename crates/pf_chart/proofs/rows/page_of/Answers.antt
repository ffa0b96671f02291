use Rattle.std.proofs.Common.{◌∙◌, ap, arith, take, drop, ℕ}
use Rattle.pf_chart.proofs.Charts.{cut}
use Rattle.pf_chart.proofs.rows.page_of.Goals as goal

pub returns : goal.returns
returns c =
    let rows = c.args.rows.now in
    let first = c.first_row-first.result in
    cut rows first c.min-end.result c.first_row-first.ensures.within (omega arith)
    ∙ ap (λ (n : ℕ). take 500 (drop n rows)) c.first_row-first.ensures.first
