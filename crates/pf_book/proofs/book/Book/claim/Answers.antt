use Rattle.pf_book.proofs.Claims.{counts_any_claimed}
use Rattle.pf_book.proofs.book.Book.claim.Goals as goal

pub invariant_of-self : goal.invariant_of-self
invariant_of-self c = (
  counts_any_claimed c.self.inside.store c.self.inside.desks.entries c.claim_first.new.desks.entries
      c.claim_first.result c.claim_first.ensures.claim c.self.invariant.0,
  c.claim_first.ensures.queue,
)
