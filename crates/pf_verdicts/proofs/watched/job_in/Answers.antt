use Rattle.std.proofs.Common.{Ok, subst}
use Rattle.pf_request.specs.View.{view_of_request}
use Rattle.pf_sched.specs.Asked.{Asks}
use Rattle.pf_verdicts.proofs.watched.job_in.Goals as goal

pub returns-in-Ok : goal.returns-in-Ok
returns-in-Ok c =
    subst (λ m. Asks m c.args.edition (view_of_request c.args.request.now) (Ok c.in-Ok.job)) c.in_ok-share.ensures
    c.in-Ok.ensures
