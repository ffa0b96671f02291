use Rattle.std.proofs.Common.{◌≡◌, ◌<◌, true, length, get_or, ap, arith}
use Rattle.pf_diagnostics.specs.Positions.{is_newline}
use Rattle.pf_diagnostics.proofs.Lines.{up_to_is}
use Rattle.pf_diagnostics.proofs.position.up_to_newline.Goals.{then-loop-end-test+else-after-end-ne10}
use Rattle.pf_diagnostics.proofs.position.up_to_newline.Goals.{else-loop-end-test}
use Rattle.pf_diagnostics.proofs.position.up_to_newline.Goals as goal

pub returns : goal.returns
returns c =
    let one : c.loop-end.end < length c.args.after.now
    → is_newline (get_or c.args.after.now c.loop-end.end 0) ≡ true =
    λ some. elim c.loop-end-test.branch [
      | then-loop-end-test+else-after-end-ne10 w ↦ ap is_newline w.if-after-end-ne10.false
      | else-loop-end-test w ↦ absurd (omega arith)
    ] in
    up_to_is c.args.after.now c.loop-end.end c.loop-end.invariant.within c.loop-end.invariant.none one
