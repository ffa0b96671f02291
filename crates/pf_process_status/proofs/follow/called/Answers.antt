use Rattle.std.proofs.Common.{◌≡◌, false, inl, subst}
use Rattle.std.specs.Prelude.{MatchOption}
use Rattle.pf_model.specs.Configuration.{is_alive, of}
use Rattle.pf_process_status.specs.Fates.{IsAtPoint}
use Rattle.pf_process_status.proofs.Following.{called_of}
use Rattle.pf_process_status.proofs.follow.called.Goals as goal

pub returns-in-Some : goal.returns-in-Some
returns-in-Some c d is_there =
    let m = c.args.system.now.checked in
    let s = (of d.core c.args.pid).state in
    let at = subst (λ o. MatchOption o (is_alive s ≡ false) (IsAtPoint m s)) c.in-Some.is
    (c.point_of.ensures d is_there) in
    called_of m s c.in-Some.point c.called_at.result c.called_at.ensures at

pub returns-in-None : goal.returns-in-None
returns-in-None c d is_there =
    let m = c.args.system.now.checked in
    let s = (of d.core c.args.pid).state in
    inl (subst (λ o. MatchOption o (is_alive s ≡ false) (IsAtPoint m s)) c.in-None.is (c.point_of.ensures d is_there))
