use Rattle.std.proofs.lemmas.Result.{on_ok_weaker}
use Rattle.pf_svg.proofs.Drawn.{in_turn}
use Rattle.pf_chart.proofs.chart.put_legends.Goals as goal

pub returns : goal.returns
returns c =
    on_ok_weaker c.put_legend-3.result (λ h. in_turn c.in_ok-put_legend.ensures
    (in_turn c.in_ok-put_legend-2.ensures h)) c.put_legend-3.ensures
