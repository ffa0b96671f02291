use Rattle.std.proofs.Common.{refl}
use Rattle.std.proofs.lemmas.Result.{on_ok_weaker}
use Rattle.pf_svg.proofs.Drawn.{in_turn}
use Rattle.pf_chart.proofs.chart.put_ground.Goals as goal

pub put-requires-clause-whole : goal.put-requires-clause-whole
put-requires-clause-whole c = λ os. refl

pub returns : goal.returns
returns c = on_ok_weaker c.end_line.result (λ h. in_turn c.in_ok-put.ensures (in_turn c.in_ok-rect.ensures h))
    c.end_line.ensures
