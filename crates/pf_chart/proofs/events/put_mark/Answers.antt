use Rattle.std.proofs.Common.{refl}
use Rattle.std.proofs.lemmas.Result.{on_ok_weaker}
use Rattle.pf_svg.proofs.Drawn.{in_turn, plainly, to_close}
use Rattle.pf_chart.proofs.events.put_mark.Goals as goal

pub put-requires-clause-whole : goal.put-requires-clause-whole
put-requires-clause-whole c = λ os. refl

pub returns : goal.returns
returns c =
    on_ok_weaker c.close_group.result
    (λ h. to_close (in_turn (plainly c.in_ok-title.ensures c.in_ok-path.ensures) c.in_ok-put.ensures) h)
    c.close_group.ensures
