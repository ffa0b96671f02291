use Rattle.std.proofs.lemmas.Result.{on_ok_weaker}
use Rattle.pf_svg.proofs.Drawn.{grouped, in_turn, to_close}
use Rattle.pf_chart.proofs.chart.put_result.Goals as goal

pub returns : goal.returns
returns c =
    on_ok_weaker c.close_group.result
    (λ h. grouped c.in_ok-plain_group.ensures (to_close (in_turn c.in_ok-title.ensures c.in_ok-text.ensures) h))
    c.close_group.ensures
