use Rattle.std.proofs.lemmas.Result.{on_ok_weaker}
use Rattle.pf_svg.proofs.Drawn.{grouped, nothing, to_close}
use Rattle.pf_chart.proofs.heads.put_spawn.Goals as goal

pub returns : goal.returns
returns c = on_ok_weaker c.close_group.result
    (λ h. grouped c.in_ok-group.ensures (to_close c.in_ok-stroke.ensures.drawn h)) c.close_group.ensures

pub returns-in_default : goal.returns-in_default
returns-in_default c = nothing _
