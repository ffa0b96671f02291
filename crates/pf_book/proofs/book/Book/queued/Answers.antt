use Rattle.std.proofs.Common.{ap, ◌∙◌}
use Rattle.pf_desks.specs.Desks.{Desks, desk_at}
use Rattle.pf_book.specs.Queued.{job_at}
use Rattle.pf_book.proofs.book.Book.queued.Goals as goal

pub returns : goal.returns
returns c = c.queued_in.ensures ∙ ap (λ (w : Desks). job_at (desk_at c.args.project w).trials c.args.ticket)
    c.self.view_is
