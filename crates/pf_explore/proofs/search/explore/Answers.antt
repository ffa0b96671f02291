use Rattle.std.proofs.Common.{◌≡◌, ◌∙◌, true, sym, subst, rules, arith}
use Rattle.pf_model.specs.Reports.{view_of_report}
use Rattle.pf_explore.specs.Failing.{IsFailingLast}
use Rattle.pf_explore.specs.Level.{IsEndOfLevel}
use Rattle.pf_explore.specs.Steps.{StepsAreWithin}
use Rattle.pf_explore.proofs.search.explore.Goals as goal

pub returns-in-Holds-true-default : goal.returns-in-Holds-true-default
returns-in-Holds-true-default g c =
    let a = g.R.ScheduledRuns.asked c.args.runs.now in
    let most = c.loop-most.most in
    let held = c.in-Holds-true-default in
    let ends =
    subst (λ k. IsEndOfLevel k most c.in_ok-level.level.end) c.loop-most.invariant.0 c.in_ok-level.ensures.end in
    let holds = subst (IsEndOfLevel a most) held.is ends in
    let whole : held.all ≡ true = first_of (search rules, cc) in
    let both = holds.1 whole in
    (both.0, subst (λ n. StepsAreWithin a.last n a.job) (first_of (search rules, cc)) both.1)

pub returns-in-Fails : goal.returns-in-Fails
returns-in-Fails g c =
    let a = g.R.ScheduledRuns.asked c.args.runs.now in
    let most = c.loop-most.most in
    let fails =
    subst (IsEndOfLevel a most) c.in-Fails.is
    (subst (λ k. IsEndOfLevel k most c.in_ok-level.level.end) c.loop-most.invariant.0 c.in_ok-level.ensures.end) in
    subst (λ r. IsFailingLast a.last a.job (view_of_report r)) (sym c.in-Fails.report-is) fails

pub loop-most-preserved : goal.loop-most-preserved
loop-most-preserved g c =
    let a = g.R.ScheduledRuns.asked c.args.runs.now in
    let most = c.loop-most.most in
    let held = c.in-Holds-false-default in
    let ends =
    subst (λ k. IsEndOfLevel k most c.in_ok-level.level.end) c.loop-most.invariant.0 c.in_ok-level.ensures.end in
    let holds = subst (IsEndOfLevel a most) held.is ends in (
      c.search_level.ensures.same ∙ c.loop-most.invariant.0,
      c.search_level.ensures.pace ∙ c.loop-most.invariant.1,
      (holds.0, (first_of (search rules, cc), first_of (search rules, omega arith))),
    )
