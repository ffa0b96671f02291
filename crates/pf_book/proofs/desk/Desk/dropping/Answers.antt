use Rattle.std.proofs.Common.{rules, ◌≡◌, Some, refl, sym, subst, ap, ◌∙◌}
use Rattle.pf_quota.specs.declared.usage.Usage.{Usage}
use Rattle.pf_quota.specs.declared.charges.Holding.{Holding}
use Rattle.pf_quota.specs.declared.charges.Holding.TheVariants as held
use Rattle.pf_quota.specs.declared.charges.Charge.TheVariants as charge
use Rattle.pf_quota.specs.Charges.{steps_of_trial}
use Rattle.pf_quota.specs.Usage.{Covers, charged, refunded}
use Rattle.pf_desks.specs.Desk.{held_at}
use Rattle.pf_desks.specs.Calls.{usage_in}
use Rattle.pf_book.proofs.Planned.{drop_planned}
use Rattle.pf_desks.proofs.Sums.{trial_covers}
use Rattle.pf_book.proofs.desk.Desk.dropping.Goals as goal

pub refund-requires : goal.refund-requires
refund-requires c =
    let d = c.args.self.now in
    let t = c.in-Some.trial.now in
    let found : held_at d.trials c.args.ticket ≡ Some t = search rules in
    let covers : Covers (charged (usage_in d) charge.Call)
    (held.Trial (steps_of_trial t.job.asked.limit t.job.asked.runs)) = trial_covers d c.args.ticket t found in
    let here : Covers c.args.usage (held.Trial (steps_of_trial t.job.asked.limit t.job.asked.runs)) =
    subst (λ (u : Usage). Covers u (held.Trial (steps_of_trial t.job.asked.limit t.job.asked.runs)))
    (sym c.requires.charged) covers in
    subst (λ (h : Holding). Covers c.args.usage h) (sym c.held.ensures) here

pub returns-clause-plan : goal.returns-clause-plan
returns-clause-plan c =
    let d = c.args.self.now in
    let t = c.in-Some.trial.now in
    let found : held_at d.trials c.args.ticket ≡ Some t = search rules in
    let uses = c.refund.ensures ∙ ap (λ (h : Holding). refunded c.args.usage h) c.held.ensures in
    drop_planned d c.args.usage c.requires.charged _ c.args.ticket t found refl refl refl uses
