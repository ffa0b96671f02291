use Rattle.std.proofs.Common.{rules, ◌≡◌, ℕ, ◌+◌, length, None, ap}
use Rattle.pf_quota.specs.declared.charges.Charge.TheVariants as charge
use Rattle.pf_quota.specs.Charges.{steps_of_trial}
use Rattle.pf_quota.specs.Checks.{refusal_of}
use Rattle.pf_quota.specs.Usage.{charged}
use Rattle.pf_request.specs.View.{view_of_order}
use Rattle.pf_desks.specs.Desk as desk
use Rattle.pf_desks.specs.Calls.{with_job}
use Rattle.pf_book.proofs.Planned.{order_planned}
use Rattle.pf_book.proofs.desk.Desk.ordered.Goals as goal

pub returns-clause-plan : goal.returns-clause-plan
returns-clause-plan c =
    let d = c.args.self.now in
    let u = c.args.usage in
    let j = c.args.job.value in
    let steps = steps_of_trial j.asked.limit j.asked.runs in
    let many : c.len.result ≡ length d.trials = search rules in
    let own : c.edition.result ≡ d.edition = c.edition.ensures.edition in
    let within : refusal_of d.edition u (charge.Trial steps) ≡ None = search rules in
    let uses : c.charge.new.self ≡ charged u (charge.Trial steps) = search rules in
    let number : c.deref-3.result.now.module ≡ c.args.order.value.module = search rules in
    order_planned d u c.requires.charged _ c.args.order.value j c.requires.asked within
    (ap (λ (n : ℕ). with_job d n j) number)
    (ap (λ n. desk.ticket (n + 1)) many) uses
    (ap (λ n. desk.called (view_of_order c.args.order.value) (desk.ticket (n + 1))) many)
