use Rattle.std.proofs.Common.{◌≡◌, ◌<◌, ◌-◌, true, get_or, ap, arith}
use Rattle.pf_diagnostics.specs.Positions.{is_newline}
use Rattle.pf_diagnostics.proofs.Lines.{since_is}
use Rattle.pf_diagnostics.proofs.position.since_newline.Goals.{then-loop-start-test+else-front-start-ne10}
use Rattle.pf_diagnostics.proofs.position.since_newline.Goals.{else-loop-start-test}
use Rattle.pf_diagnostics.proofs.position.since_newline.Goals as goal

pub returns : goal.returns
returns c =
    let one : 0 < c.loop-start.start → is_newline (get_or c.args.front.now (c.loop-start.start - 1) 0) ≡ true =
    λ some. elim c.loop-start-test.branch [
      | then-loop-start-test+else-front-start-ne10 w ↦ ap is_newline w.if-front-start-ne10.false
      | else-loop-start-test w ↦ absurd (omega arith)
    ] in
    since_is c.args.front.now c.loop-start.start c.loop-start.invariant.within c.loop-start.invariant.none one
