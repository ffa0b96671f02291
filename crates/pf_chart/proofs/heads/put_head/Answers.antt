use Rattle.std.proofs.lemmas.Result.{on_ok_weaker}
use Rattle.pf_svg.proofs.Drawn.{in_turn}
use Rattle.pf_chart.proofs.heads.put_head.Goals as goal

pub returns : goal.returns
returns c = on_ok_weaker c.put_origin.result (λ h. in_turn c.in_ok-put_box.ensures h) c.put_origin.ensures
