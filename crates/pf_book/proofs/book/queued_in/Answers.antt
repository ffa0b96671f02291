use Rattle.std.proofs.Common.{refl, sym, ap, ◌∙◌}
use Rattle.pf_desks.specs.Desk.{Desk}
use Rattle.pf_book.specs.Queued.{job_at}
use Rattle.pf_book.proofs.Placed.{desk_at_index, no_desk_at, no_job}
use Rattle.pf_book.proofs.book.queued_in.Goals as goal

pub returns-in_err-index : goal.returns-in_err-index
returns-in_err-index c =
    let es = c.args.desks.now.entries in
    let here = no_desk_at c.args.project es es (sym c.in_err-index.ensures.index) refl in
    rw c.from_residual.ensures (sym (ap (λ (k : Desk). job_at k.trials c.args.ticket) here ∙ no_job c.args.ticket))

pub returns : goal.returns
returns c =
    let es = c.args.desks.now.entries in
    let q = c.args.project in
    let at = desk_at_index q es es c.in_ok-index.index c.index.result.now (sym c.in_ok-index.ensures.index)
    c.index.ensures refl in
    c.queued.ensures ∙ ap (λ (k : Desk). job_at k.trials c.args.ticket) (sym at.here)
