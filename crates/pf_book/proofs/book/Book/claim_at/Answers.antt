use Rattle.std.proofs.Common.{◌+◌, ℕ, sym, ap, ◌∙◌}
use Rattle.pf_book.proofs.Claims.{counts_claimed, queues_some_claimed}
use Rattle.pf_book.proofs.book.Book.claim_at.Goals as goal

pub let_pass-requires : goal.let_pass-requires
let_pass-requires c =
    let s = c.self.inside in
    let w' = c.claim_in.new.desks.entries in
    queues_some_claimed c.args.project c.args.ticket s.queue c.begin.new.self s.desks.entries w' c.in_ok-claimed.claimed
    (sym c.is_some.ensures ∙ c.if-is_some.true) c.in_ok-claimed.ensures c.self.invariant.1
    (c.begin.ensures.waiting ∙ c.make_room.ensures.waiting)
    (c.begin.ensures.running ∙ ap (λ (n : ℕ). n + 1) c.make_room.ensures.running)
    c.begin.ensures.room

pub invariant_of-self-then-is_some : goal.invariant_of-self-then-is_some
invariant_of-self-then-is_some c =
    let s = c.self.inside in
    let w' = c.claim_in.new.desks.entries in (
      counts_claimed s.store c.args.project c.args.ticket s.desks.entries w' c.in_ok-claimed.claimed
          c.in_ok-claimed.ensures c.self.invariant.0,
      c.let_pass.ensures.queue,
    )
