use Rattle.std.proofs.Common.{◌≡◌, length}
use Rattle.pf_book.specs.Queues.{QueuesAll, from_first_queued}
use Rattle.pf_book.proofs.book.claim_first.Given as goal

-- no desk has changed, each trial that is queued still waits, and only trials that aren't have left the front
abbrev pub invariant-loop-project : goal.invariant-loop-project
invariant-loop-project l = record {
  same : l.desks.entries ≡ l.fn.desks.entries;
  waits : QueuesAll l.queue l.desks.entries;
  ahead : from_first_queued l.desks.entries l.queue.waiting.items
      ≡ from_first_queued l.fn.desks.entries l.fn.queue.waiting.items;
}

abbrev pub decreases-loop-project : goal.decreases-loop-project
decreases-loop-project l = length l.queue.waiting.items
