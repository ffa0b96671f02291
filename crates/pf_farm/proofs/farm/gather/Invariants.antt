use Rattle.std.proofs.Common.{◌≡◌, ◌+◌, true, List, ◌∷◌, ◌++◌, [], length, vec_len}
use Rattle.pf_farm_accounts.specs.DequeViews.{stolen_by}
use Rattle.pf_farm.specs.Seats.{WorkSeatView, AllIdle, AllSpent}
use Rattle.pf_farm.proofs.Rings.{IsOpen}
use Rattle.pf_farm.proofs.farm.gather.Given as goal

abbrev pub invariant-seats : goal.invariant-seats
invariant-seats g l = record {
  ring : IsOpen l.seats.items l.owner l.thief;
  idle : AllIdle l.seats.items;
  drained : l.owner.drained ≡ true;
  opened : l.opened.parts + vec_len l.seats ≡ l.fn.opened.parts + vec_len l.fn.seats;
  ended : l.ended.parts + vec_len l.seats ≡ l.fn.ended.parts + vec_len l.fn.seats;
  amount : l.opened.amount + l.fn.ended.amount + length l.owner.popped + length (stolen_by l.thief) ≡ l.ended.amount
      + l.fn.opened.amount + length l.owner.pushed;
  last : (last : WorkSeatView) × (others : List WorkSeatView) × (l.fn.seats.items ≡ others ++ last ∷ [])
      × (l.thief ≡ last.next);
  spent : (t : WorkSeatView) × (done : List WorkSeatView) × (l.owner ≡ t.own)
      × (l.fn.seats.items ≡ l.seats.items ++ t ∷ done) × AllSpent t done;
}

abbrev pub decreases-seats : goal.decreases-seats
decreases-seats g l = vec_len l.seats
