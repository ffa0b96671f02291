use Rattle.std.proofs.Common.{subst}
use Rattle.std.proofs.lemmas.Result.{on_ok_weaker}
use Rattle.pf_process_status.specs.Noted.{IsNoted}
use Rattle.pf_process_status.proofs.failures.Notes.make.Goals as goal

pub returns : goal.returns
returns c =
    let failing = c.failed_in-failing.result in
    let point = c.in_ok-point.point in
    on_ok_weaker c.note.result
    (λ h. (
      failing,
      point,
      c.failed_in-failing.ensures,
      subst (λ o. IsNoted c.args.event o failing point c.args.self.now c.note.new.self) c.raised_in-raising.ensures h,
    ))
    c.note.ensures
