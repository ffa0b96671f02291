use Rattle.std.proofs.lemmas.Result.{on_ok_weaker}
use Rattle.pf_svg.proofs.Drawn.{in_turn}
use Rattle.pf_chart.proofs.heads.put_life.Goals as goal

pub returns-in_ok-line-in-Some : goal.returns-in_ok-line-in-Some
returns-in_ok-line-in-Some c =
    on_ok_weaker c.line-in-Some.result (λ h. in_turn c.in_ok-from.ensures
    (in_turn c.in_ok-line-in-Some.ensures.drawn h)) c.line-in-Some.ensures.drawn

pub returns-in_default : goal.returns-in_default
returns-in_default c = on_ok_weaker c.line-in_default.result (λ h. in_turn c.in_ok-from.ensures h)
    c.line-in_default.ensures.drawn
