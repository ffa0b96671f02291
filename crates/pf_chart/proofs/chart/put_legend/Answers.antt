use Rattle.std.proofs.lemmas.Result.{on_ok_weaker}
use Rattle.pf_svg.proofs.Drawn.{in_turn}
use Rattle.pf_chart.proofs.chart.put_legend.Goals as goal

pub returns : goal.returns
returns c = on_ok_weaker c.end_line.result (λ h. in_turn c.in_ok-text.ensures h) c.end_line.ensures
