use Rattle.std.proofs.Common.{◌≡◌, refl, sym, ap, ◌∙◌, subst}
use Rattle.pf_model.specs.Meaning.{Report}
use Rattle.pf_model.specs.Properties.{some_label, verdict}
use Rattle.pf_model.specs.Reports.{view_of_outcome}
use Rattle.pf_property.specs.Judging.{rules_out}
use Rattle.pf_property.specs.Views.{labels_in}
use Rattle.pf_sched.specs.Asked.{IsValid}
use Rattle.pf_sched.proofs.Evidenced.{few_labels}
use Rattle.pf_sched.proofs.whole.judge.Goals as goal

pub returns : goal.returns
returns c es within known =
    let j = c.args.job.now in
    let s = c.args.system.now in
    let o = view_of_outcome c.in_ok-outcome.outcome in
    let ls = labels_in es in
    let same = ap (λ k. k.asked.property) c.job.view_is in
    let reported : c.judge-verdict.result ≡ verdict j.asked.property ls o =
    c.judge-verdict.ensures ls (subst (λ p. c.args.evidence.ruled_out ≡ some_label (rules_out p) ls)
    (sym same) known.0.1) ∙ ap (λ p. verdict p ls o) same in
    let waiting = c.waiting-waiting.ensures ls known.1
    (few_labels j (subst IsValid c.job.view_is c.job.invariant.0) es within) in
    let r : Report = record { events = es; outcome = o; steps = s.steps; verdict = c.judge-verdict.result } in (
      r,
      record { events = refl; outcome = c.in_ok-outcome.ensures.outcome; steps = refl; verdict = reported },
      (refl, refl, waiting),
    )
