use Rattle.std.proofs.Common.{◌+◌, ◌≡◌, length, refl, sym, ap, subst}
use Rattle.std.specs.Prelude.{◌⊎◌}
use Rattle.pf_sched.specs.Asked.{IsValid}
use Rattle.pf_sched.specs.Choosing.{choices}
use Rattle.pf_sched.specs.Parts.{IsRunOf, events_in}
use Rattle.pf_sched.specs.Slices.{EndsBy, IsRunOver, RunAdvances}
use Rattle.pf_sched.specs.declared.run.Run.{Run}
use Rattle.pf_sched.specs.Views.{view_of_parked, without_memory}
use Rattle.pf_sched.proofs.Sliced.{ends_sooner, goes_on, is_over}
use Rattle.pf_sched.proofs.slice.slice_of_run.Goals as goal

pub invariant_of-result : goal.invariant_of-result
invariant_of-result c =
    let j = c.args.job.value in
    let made = c.go_on.new.self in
    let advanced = subst (λ k. RunAdvances k c.deref_mut.result.now made c.args.turns c.in-Ok-false.field-0)
    c.deref.ensures c.in-Ok-false.ensures.run in
    let went = (subst (λ k. RunAdvances j k made c.args.turns c.in-Ok-false.field-0) c.deref_mut.ensures.value advanced)
    (choices j.asked.choices) c.requires.1 in
    (c.requires.0, went.0)

pub returns-in-Ok-false : goal.returns-in-Ok-false
returns-in-Ok-false c =
    let j = c.args.job.value in
    let old = c.args.run.value in
    let made = c.go_on.new.self in
    let advanced = subst (λ k. RunAdvances k c.deref_mut.result.now made c.args.turns c.in-Ok-false.field-0)
    c.deref.ensures c.in-Ok-false.ensures.run in
    let went = (subst (λ k. RunAdvances j k made c.args.turns c.in-Ok-false.field-0) c.deref_mut.ensures.value advanced)
    (choices j.asked.choices) c.requires.1 in
    let valid : IsValid j = subst IsValid c.deref.ensures c.in-Ok-false.ensures.valid in
    let g = goes_on j valid (length (events_in old)) c.args.turns made c.requires.0 went.0 c.in-Ok-false.field-0
    c.in-Ok-false.field-0-test went.1 in
    (ap (view_of_parked j) g.0, g.1)

pub finish-requires-clause-run : goal.finish-requires-clause-run
finish-requires-clause-run c =
    let j = c.args.job.value in
    let old = c.args.run.value in
    let made = c.go_on.new.self in
    let advanced = subst (λ k. RunAdvances k c.deref_mut.result.now made c.args.turns c.in-Ok-true.field-0)
    c.deref.ensures c.in-Ok-true.ensures.run in
    let went = (subst (λ k. RunAdvances j k made c.args.turns c.in-Ok-true.field-0) c.deref_mut.ensures.value advanced)
    (choices j.asked.choices) c.requires.1 in
    subst (IsRunOf j) (sym c.into_inner.ensures) (c.requires.0, went.0)

pub finish-requires-clause-over : goal.finish-requires-clause-over
finish-requires-clause-over c =
    let j = c.args.job.value in
    let old = c.args.run.value in
    let made = c.go_on.new.self in
    let advanced = subst (λ k. RunAdvances k c.deref_mut.result.now made c.args.turns c.in-Ok-true.field-0)
    c.deref.ensures c.in-Ok-true.ensures.run in
    let went = (subst (λ k. RunAdvances j k made c.args.turns c.in-Ok-true.field-0) c.deref_mut.ensures.value advanced)
    (choices j.asked.choices) c.requires.1 in
    subst (λ (k : Run). IsRunOver j.asked.limit k.execution) (sym c.into_inner.ensures)
    (is_over j (length (events_in old)) (length (events_in made)) c.args.turns j.asked.limit made.execution refl
    c.in-Ok-true.field-0 c.in-Ok-true.field-0-test went.1).0

pub returns-in-Ok-true : goal.returns-in-Ok-true
returns-in-Ok-true c =
    let j = c.args.job.value in
    let old = c.args.run.value in
    let made = c.go_on.new.self in
    let advanced = subst (λ k. RunAdvances k c.deref_mut.result.now made c.args.turns c.in-Ok-true.field-0)
    c.deref.ensures c.in-Ok-true.ensures.run in
    let went = (subst (λ k. RunAdvances j k made c.args.turns c.in-Ok-true.field-0) c.deref_mut.ensures.value advanced)
    (choices j.asked.choices) c.requires.1 in
    let end = is_over j (length (events_in old)) (length (events_in made)) c.args.turns j.asked.limit made.execution
    refl c.in-Ok-true.field-0 c.in-Ok-true.field-0-test went.1 in
    let result = subst (λ (k : Run). EndsBy j (length (events_in k)) c.finish.result.result
    ⊎ (c.finish.result.result ≡ without_memory)) c.into_inner.ensures c.finish.ensures.result in (
      c.finish.ensures.job,
      ends_sooner j (length (events_in made)) (length (events_in old) + c.args.turns)
          c.finish.result.result end.1 result,
    )
