use Rattle.std.proofs.Common.{sym}
use Rattle.std.proofs.lemmas.Result.{IfOk-at_ok}
use Rattle.pf_hunt.specs.Known.{FindsFailure}
use Rattle.pf_hunt.proofs.Leaking.{finds_both, finds_further, none_fails_in}
use Rattle.pf_hunt.proofs.workers.both_parts.Goals as goal

pub returns-then-is_some : goal.returns-then-is_some
returns-then-is_some c h a m le le' front back =
    let f = c.args.front in
    finds_further h a m c.args.end f.failure f.leak f.end le' (sym c.if-is_some.ensures) front

pub returns : goal.returns
returns c h a m le le' front back =
    let f = c.args.front in
    let none = none_fails_in h a m f.failure f.leak f.end (sym c.if-is_some.ensures) front in
    let b = c.in_ok-back.back in
    finds_both h a m c.args.end b.failure b.leak c.earlier.result b.end le le' none.0
    (λ d to leak. c.earlier.ensures h.strategy h.job.asked a m d le to none.1 leak)
    (IfOk-at_ok (FindsFailure h m c.args.end) c.in_ok-back.was back)
