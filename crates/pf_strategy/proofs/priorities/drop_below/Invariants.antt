use Rattle.std.proofs.Common.{◌≡◌, ◌≤◌, length}
use Rattle.std.specs.Prelude.{drop, take}
use Rattle.pf_strategy.specs.Priorities.{from_key}
use Rattle.pf_strategy.proofs.priorities.drop_below.Given as goal

-- what is left from the index on gives the same, and what is before the index is as it was
abbrev pub invariant-loop-holders : goal.invariant-loop-holders
invariant-loop-holders l = record {
  within : l.at ≤ length l.holders.items;
  front : take l.at l.holders.items ≡ take l.at l.fn.holders.items;
  back : from_key l.key (drop l.at l.holders.items) ≡ from_key l.key (drop l.at l.fn.holders.items);
}

abbrev pub decreases-loop-holders : goal.decreases-loop-holders
decreases-loop-holders l = length l.holders.items
