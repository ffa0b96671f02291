use Rattle.std.proofs.Common.{◌≡◌, ◌∙◌, ℕ, inl, inr, None, Some, List, refl, sym, ap}
use Rattle.std.specs.Prelude.{slice_get}
use Rattle.std.proofs.lemmas.Option.{same_Some}
use Rattle.pf_process_status.specs.Put.{failed_at}
use Rattle.pf_process_status.specs.declared.standing.ProcessStatus.{ProcessStatus}
use Rattle.pf_process_status.proofs.processes.put_point.Goals as goal

pub returns-in_default : goal.returns-in_default
returns-in_default c =
    let seen = c.failed_at.ensures ∙ ap (λ (xs : List ProcessStatus). failed_at (slice_get xs c.args.failure.pid))
    c.deref.ensures.value in
    inr (λ e. let never : None ≡ Some c.args.failure.event = sym c.in_default.is ∙ seen ∙ e in absurd (cc), refl)

pub returns-then-failed-event : goal.returns-then-failed-event
returns-then-failed-event c =
    let seen = c.failed_at.ensures ∙ ap (λ (xs : List ProcessStatus). failed_at (slice_get xs c.args.failure.pid))
    c.deref.ensures.value in
    inr (
      λ e. c.if-failed-event.true (same_Some c.in-Some.failed c.args.failure.event (sym c.in-Some.is ∙ seen ∙ e)),
      refl,
    )

pub returns : goal.returns
returns c =
    let seen = c.failed_at.ensures ∙ ap (λ (xs : List ProcessStatus). failed_at (slice_get xs c.args.failure.pid))
    c.deref.ensures.value in
    inl (sym seen ∙ c.in-Some.is ∙ ap (λ (n : ℕ). Some n) c.if-failed-event.false, c.put_fate.ensures)
