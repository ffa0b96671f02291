use Rattle.std.proofs.Common.{◌≡◌, ℕ, Ok, subst}
use Rattle.pf_request.specs.Job.{Job}
use Rattle.pf_request.specs.View.{view_of_request}
use Rattle.pf_sched.specs.Asked.{Asks}
use Rattle.pf_verdicts.proofs.watched.is_of.Goals as goal

pub returns-in-Some : goal.returns-in-Some
returns-in-Some c right =
    let m = c.args.module.now in
    let r = view_of_request c.args.request.now in
    let k = c.in-Some.other in
    let own : Asks m c.edition.result r (Ok k) = rw c.in-Some.is at c.in_ok-other.ensures in
    let asks = subst (λ (e : ℕ). Asks m e r (Ok k)) c.edition.ensures.edition own in
    let same : k ≡ c.args.job.now = c.same.ensures.0 right in
    subst (λ (j : Job). Asks m c.args.job.now.asked.edition r (Ok j)) same asks
