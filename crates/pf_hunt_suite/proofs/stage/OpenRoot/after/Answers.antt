use Rattle.std.proofs.Common.{◌≡◌, ◌<◌, ap, map, refl, sym, ◌∙◌, subst, arith}
use Rattle.std.specs.Prelude.{option_map}
use Rattle.pf_model.specs.Reports.{view_of_report}
use Rattle.pf_hunt.specs.Hunts.{FirstFailing}
use Rattle.pf_property.specs.Views.{property_of}
use Rattle.pf_verdicts.specs.Causes.{cause_of}
use Rattle.pf_hunt.specs.Views.{failure_of, failures_of, further_of}
use Rattle.pf_verdicts.specs.declared.cause.FailureCause.{FailureCause}
use Rattle.pf_hunt_suite.specs.Stages.{IsStageOf, asked_of, goes_on, over}
use Rattle.pf_hunt_suite.specs.declared.stage.RootStage.TheVariants.{Over}
use Rattle.pf_hunt_suite.specs.declared.hunt.RootHunt.{RootHunt}
use Rattle.pf_hunt_suite.specs.declared.end.RootEnd.TheVariants.{Fails, NoFailure}
use Rattle.pf_hunt_suite.proofs.Ended.{ends_failing, ends_whole, still_open}
use Rattle.pf_hunt_suite.proofs.stage.OpenRoot.after.Goals as goal

pub returns-in-Some-clause-stage : goal.returns-in-Some-clause-stage
returns-in-Some-clause-stage c h known found past within =
    let o = c.args.self in
    let end = c.args.searched.now.end in
    let f = c.in-Some.failure in
    let r = view_of_report f.report in
    subst (λ (k : FailureCause). IsStageOf h (Over (Fails f.seed k)))
    (sym (c.cause_of.ensures ∙ ap (λ ps. cause_of (map property_of ps) r) c.as_slice.ensures.value))
    (over (Fails f.seed (cause_of (further_of o.hunt) r)) (ends_failing h o known end f.seed r within
    (subst (λ x. FirstFailing (failures_of o.hunt) o.hunt.strategy o.hunt.job.asked o.next end
    (option_map failure_of x))
    c.in-Some.is found)))

pub returns-in-None-clause-stage : goal.returns-in-None-clause-stage
returns-in-None-clause-stage c h known found past within =
    let o = c.args.self in
    let end = c.args.searched.now.end in
    goes_on _ (still_open h o known _ end refl refl refl past
    (subst (λ (k : _). end < (asked_of k).seeds.1) known.hunted c.if-next-args.true)
    (subst (λ x. FirstFailing (failures_of o.hunt) o.hunt.strategy o.hunt.job.asked o.next end
    (option_map failure_of x))
    c.in-None.is found))

pub returns-clause-stage : goal.returns-clause-stage
returns-clause-stage c h known found past within =
    let o = c.args.self in
    let end = c.args.searched.now.end in
    let same : o.hunted.args.now.end ≡ h.args.now.end = ap (λ (k : RootHunt). k.args.now.end) known.hunted in
    rw (c.saturating_sub.ensures, known.hunted)
    (over _ (ends_whole h o known end (omega (arith, within, c.if-next-args.false, same))
    (subst (λ x. FirstFailing (failures_of o.hunt) o.hunt.strategy o.hunt.job.asked o.next end
    (option_map failure_of x))
    c.in-None-2.is found)))
