use Rattle.std.proofs.Common.{◌≡◌, ◌≤◌, ◌-◌, ◌++◌, length}
use Rattle.std.specs.Prelude.{drop, take}
use Rattle.rand_pcg.specs.Pcg.{pcg32}
use Rattle.pf_strategy.specs.Keys.{keys_among}
use Rattle.pf_strategy.specs.Priorities.{all_given, highest_from}
use Rattle.pf_strategy.proofs.Places.{following}
use Rattle.pf_strategy.proofs.priorities.Priorities.choose_among.Given as goal

-- those of the keys that were gone through are before the index with their priorities, the highest of them is known,
-- and those of the keys that are left give the same
abbrev pub invariant-loop-at : goal.invariant-loop-at
invariant-loop-at l = record {
  within : l.at ≤ length l.self.held.items;
  given :
      all_given pcg32 (keys_among l.pids l.channels) l.fn.self.generator l.fn.self.held.items
      ≡ following (take l.at l.self.held.items) (all_given pcg32 (drop l.at (keys_among l.pids l.channels))
      l.self.generator (drop l.at l.self.held.items));
  best : l.best ≤ l.at - 1;
  highest :
      highest_from 0 0 0 (take l.at l.self.held.items
      ++ (all_given pcg32 (drop l.at (keys_among l.pids l.channels)) l.self.generator
      (drop l.at l.self.held.items)).held)
      ≡ highest_from l.at l.best l.highest (all_given pcg32 (drop l.at (keys_among l.pids l.channels)) l.self.generator
      (drop l.at l.self.held.items)).held;
}
