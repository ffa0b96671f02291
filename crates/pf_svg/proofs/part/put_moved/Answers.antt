use Rattle.std.proofs.lemmas.Result.{on_ok_weaker}
use Rattle.pf_svg.proofs.Texts.{five}
use Rattle.pf_svg.proofs.part.put_moved.Goals as goal

pub returns : goal.returns
returns c =
    on_ok_weaker c.put-3.result
    (λ h. five _ _ _ _ _ _ c.in_ok-put.ensures.ok c.in_ok-put_number.ensures.ok c.in_ok-put-2.ensures.ok
    c.in_ok-put_number-2.ensures.ok h) c.put-3.ensures.ok
