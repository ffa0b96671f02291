use Rattle.std.proofs.Common.{◌≡◌, ◌+◌, false, vec_len, Some}
use Rattle.pf_farm_accounts.specs.DequeViews.{new_owner}
use Rattle.pf_farm.specs.Seats.{IsChain, AllIdle}
use Rattle.pf_farm.proofs.farm.ring_of_seats.Given as goal

abbrev pub invariant-loop-i : goal.invariant-loop-i
invariant-loop-i g l = record {
  chain : IsChain (Some l.initial.owner.deque) l.seats.items (Some l.owner.deque);
  empty : l.owner ≡ new_owner l.owner.deque false;
  idle : AllIdle l.seats.items;
  len : vec_len l.seats + 1 ≡ l.i;
  opened : (l.opened.parts + l.i ≡ l.fn.opened.parts + 1) × (l.opened.amount ≡ l.fn.opened.amount);
  ended : (l.ended.parts + l.i ≡ l.fn.ended.parts + 1) × (l.ended.amount ≡ l.fn.ended.amount);
}
