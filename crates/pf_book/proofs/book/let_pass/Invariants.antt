use Rattle.std.proofs.Common.{length}
use Rattle.pf_book.specs.Queues.{QueuesAll}
use Rattle.pf_book.proofs.book.let_pass.Given as goal

-- each trial that is queued still waits
abbrev pub invariant-loop-project : goal.invariant-loop-project
invariant-loop-project l = record {
  waits : QueuesAll l.queue l.fn.desks.entries;
}

abbrev pub decreases-loop-project : goal.decreases-loop-project
decreases-loop-project l = length l.queue.waiting.items
