use Rattle.std.proofs.lemmas.Result.{on_ok_weaker}
use Rattle.pf_svg.proofs.Drawn.{plainly}
use Rattle.pf_chart.proofs.chart.put_bottom.Goals as goal

pub returns : goal.returns
returns c =
    on_ok_weaker c.put_legends.result
    (λ h. plainly (plainly c.in_ok-put_result.ensures c.in_ok-put_page.ensures) h) c.put_legends.ensures
