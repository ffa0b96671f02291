use Rattle.std.proofs.Common.{ℕ, List, ◌++◌, ◌∙◌, ap}
use Rattle.std.proofs.lemmas.Result.{on_ok_weaker}
use Rattle.pf_chart.proofs.Charts.{moved}
use Rattle.pf_chart.proofs.chart.put_chart.Goals as goal

pub returns-clause-put : goal.returns-clause-put
returns-clause-put c =
    let before = c.args.out.now.items in
    on_ok_weaker c.put.result
    (λ e. moved before c.put.new.out.items c.new-svg.ensures (e ∙ ap (λ (t : List ℕ). before ++ t) c.as_bytes.ensures)
    c.in_ok-put_document.ensures)
    c.put.ensures.ok
