use Rattle.std.proofs.Common.{◌+◌, ◌≡◌, subst}
use Rattle.std.specs.Prelude.{◌⊎◌}
use Rattle.pf_sched.specs.Parts.{events_so_far}
use Rattle.pf_sched.specs.Slices.{JobEvaluatesTo, EndsBy, ShrinkingGoesOn}
use Rattle.pf_sched.specs.declared.shrinking.Shrinking.{Shrinking}
use Rattle.pf_sched.specs.Views.{result_of, without_memory}
use Rattle.pf_sched.proofs.Sliced.{ends_so}
use Rattle.pf_sched.proofs.slice.slice_of_shrinking.Goals as goal

pub whole-requires-clause-result : goal.whole-requires-clause-result
whole-requires-clause-result c =
    let n = events_so_far c.into_inner.result + c.args.turns in
    (subst (λ k. JobEvaluatesTo k n c.in-Ok-Over.result) c.deref.ensures
    (subst (ShrinkingGoesOn c.deref.result.now n) c.in-Ok-Over.field-0-is c.in-Ok-Over.ensures)).0.0

pub whole-requires-clause-written : goal.whole-requires-clause-written
whole-requires-clause-written c =
    let n = events_so_far c.into_inner.result + c.args.turns in
    (subst (λ k. JobEvaluatesTo k n c.in-Ok-Over.result) c.deref.ensures
    (subst (ShrinkingGoesOn c.deref.result.now n) c.in-Ok-Over.field-0-is c.in-Ok-Over.ensures)).1

pub returns-in-Ok-Over : goal.returns-in-Ok-Over
returns-in-Ok-Over c =
    let j = c.args.job.value in
    let n = events_so_far c.into_inner.result + c.args.turns in
    let ends = subst (λ k. JobEvaluatesTo k n c.in-Ok-Over.result) c.deref.ensures
    (subst (ShrinkingGoesOn c.deref.result.now n) c.in-Ok-Over.field-0-is c.in-Ok-Over.ensures) in
    let result = ends_so j n (result_of c.in-Ok-Over.result) c.whole.result.result ends.0 c.whole.ensures.result in (
      c.whole.ensures.job,
      subst (λ (k : Shrinking). EndsBy j (events_so_far k + c.args.turns) c.whole.result.result
          ⊎ (c.whole.result.result ≡ without_memory)) c.into_inner.ensures result,
    )
