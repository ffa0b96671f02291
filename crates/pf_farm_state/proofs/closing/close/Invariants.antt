use Rattle.std.proofs.Common.{◌≡◌, ◌+◌, ◌≤◌, ◌++◌, length, map}
use Rattle.std.specs.Prelude.{All}
use Rattle.std.specs.Vec.{vec_capacity}
use Rattle.std.specs.Vec.Iter.{into_iter_items}
use Rattle.pf_book.specs.Profile.{ForRight}
use Rattle.pf_farm_accounts.specs.Places.{AreAmong}
use Rattle.pf_farm_accounts.specs.Receipts.{gathering_of}
use Rattle.pf_farm_state.specs.Clients.{all_receipts, closed_as, AreFull}
use Rattle.pf_farm_state.proofs.closing.close.Given as goal

abbrev pub invariant-loop-client : goal.invariant-loop-client
invariant-loop-client g l = record {
  seats : map closed_as l.closed.items ≡ l.yielded;
  rest : l.fn.clients.items ≡ l.yielded ++ into_iter_items l.client-iterator;
  gathered : l.gathering ≡ gathering_of l.fn.gathering.log (all_receipts l.closed.items)
      (l.fn.gathering.parts + length l.yielded);
  full : ForRight (λ p. AreFull l.closed.items l.book);
  among : All (λ s. AreAmong s.looks l.fn.looks) l.closed.items;
  same : l.looks ≡ l.fn.looks;
  room : length l.yielded + length (into_iter_items l.client-iterator) ≤ vec_capacity l.closed;
}
