use Rattle.std.proofs.Common.{◌≡◌, ◌∙◌, ◌≤◌, ℕ, sym, subst, zero, Bool, true, ◌&&◌, not, List}
use Rattle.std.proofs.Common.{Some, None}
use Rattle.std.specs.Prelude.{MatchOption}
use Rattle.pf_explore_laws.specs.Last.{HoldsByEachLast, HoldsWithinLast}
use Rattle.pf_explore.specs.Asked.{LastJob}
use Rattle.pf_explore.specs.Level.{IsRunEnd}
use Rattle.pf_explore.specs.Branching.{none_seen, seen_all, deviating}
use Rattle.pf_explore.specs.Steps.{StepsAreWithin}
use Rattle.pf_explore.specs.declared.level.HeldRun.{HeldRun}
use Rattle.pf_explore.specs.declared.level.RunEnd.{RunEnd}
use Rattle.pf_explore.specs.declared.level.RunEnd.TheVariants.{Holds}
use Rattle.pf_explore.proofs.Pending.{IsPending, IsGood, within, by_each, next_pending}
use Rattle.pf_explore.proofs.level.search_level.Goals as goal

-- after the last run
last_run : (a b : LastJob) (most : ℕ) (all : Bool) (n m : ℕ) (ns ms : List ℕ) (end : RunEnd) (held : HeldRun) → b ≡ a
    → ms ≡ ns → IsPending a.last a.job most all n ns → n ≤ m → held.steps ≤ m → IsRunEnd b ms most end
    → end ≡ Holds held → held.next.schedule ≡ None
    → HoldsWithinLast a.last most a.job
    × ((all && not held.next.left_out) ≡ true → HoldsByEachLast a.last a.job × StepsAreWithin a.last m a.job)
last_run a b most all n m ns ms end held same by pending more few is holds nothing =
    let h =
    subst (λ x. IsRunEnd a ns most x) holds
    (subst (λ y. IsRunEnd a y most end) by (subst (λ y. IsRunEnd y ms most end) same is)) in
    let over =
    subst (λ o. MatchOption o ((seen_all (none_seen most) zero h.1).branch ≡ None)
    (λ v. (b : ℕ × ℕ) × ((seen_all (none_seen most) zero h.1).branch ≡ Some b)
    × (v.items ≡ deviating h.1 b.0 b.1))) nothing h.4.1 in
    let good : IsGood m h.0 = (h.3.0, subst (λ k. k ≤ m) (sym h.3.1) few) in (
      within a.last a.job most all n m ns h.1 h.0 pending h.2 more good held.next.left_out (sym h.4.0) over,
      by_each a.last a.job most all n m ns h.1 h.0 pending h.2 more good held.next.left_out (sym h.4.0) over,
    )

pub returns-in_default-clause-end : goal.returns-in_default-clause-end
returns-in_default-clause-end g c =
    let ends =
    last_run (g.R.ScheduledRuns.asked c.args.runs.now) (g.R.ScheduledRuns.asked c.loop-made.runs) c.args.most
    c.loop-made.all c.loop-made.steps c.larger-steps.result c.loop-made.schedule.items c.as_slice.result.now
    c.in_ok-held.field-0 c.in-Holds.held
    c.loop-made.invariant.0 c.as_slice.ensures.value c.loop-made.invariant.2 c.larger-steps.ensures.0
    c.larger-steps.ensures.1 c.in_ok-held.ensures.end c.in-Holds.is
    c.in_default.is in
    (ends.0, λ whole. ends.1 (sym c.none_left_out-all.ensures ∙ whole))

pub loop-made-preserved : goal.loop-made-preserved
loop-made-preserved g c =
    let a = g.R.ScheduledRuns.asked c.args.runs.now in
    let most = c.args.most in
    let ns = c.loop-made.schedule.items in
    let held = c.in-Holds.held in
    let m = c.larger-steps.result in
    let h =
    subst (λ x. IsRunEnd a ns most x) c.in-Holds.is
    (subst (λ y. IsRunEnd a y most c.in_ok-held.field-0) c.as_slice.ensures.value
    (subst (λ y. IsRunEnd y c.as_slice.result.now most c.in_ok-held.field-0) c.loop-made.invariant.0
    c.in_ok-held.ensures.end)) in
    let come =
    subst (λ o. MatchOption o ((seen_all (none_seen most) zero h.1).branch ≡ None)
    (λ v. (b : ℕ × ℕ) × ((seen_all (none_seen most) zero h.1).branch ≡ Some b)
    × (v.items ≡ deviating h.1 b.0 b.1))) c.in-Some.is h.4.1 in
    let good : IsGood m h.0 = (h.3.0, subst (λ k. k ≤ m) (sym h.3.1) c.larger-steps.ensures.1) in
    let pending =
    next_pending a.last a.job most c.loop-made.all c.loop-made.steps m ns h.1 h.0 c.loop-made.invariant.2 h.2
    c.larger-steps.ensures.0 good held.next.left_out (sym h.4.0) come.0
    come.1 in
    let after =
    subst (λ b. IsPending a.last a.job most b m c.in-Some.after.items) (sym c.none_left_out-all.ensures)
    (subst (IsPending a.last a.job most (c.loop-made.all && not held.next.left_out) m) (sym come.2) pending) in (
      c.run_by.ensures.same ∙ c.loop-made.invariant.0,
      c.goes_on.ensures.same ∙ c.loop-made.invariant.1,
      subst (λ v. IsPending a.last a.job most c.none_left_out-all.result m v.items) (sym c.in-Some.after-is) after,
    )

pub returns-in-Fails-clause-end : goal.returns-in-Fails-clause-end
returns-in-Fails-clause-end g c =
    let a = g.R.ScheduledRuns.asked c.args.runs.now in
    let most = c.args.most in
    let ns = c.as_slice.result.now in
    subst (λ x. IsRunEnd a ns most x) c.in-Fails.is
    (subst (λ y. IsRunEnd y ns most c.in_ok-held.field-0) c.loop-made.invariant.0 c.in_ok-held.ensures.end)
