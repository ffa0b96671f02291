use Rattle.std.proofs.Common.{◌≡◌, ◌⊎◌, ◌≤◌, ◌-◌}
use Rattle.std.specs.Prelude.{option_map}
use Rattle.pf_hunt.specs.Hunts.{FirstLeaking, Tallies}
use Rattle.pf_hunt.specs.Notices.{HuntGoesOn, HasFailures, HearsSome}
use Rattle.pf_hunt.specs.Views.{leak_of, rows_of}
use Rattle.pf_hunt.proofs.blocks.tally_blocks.Given as goal

-- the runs before are counted, the least of them that leaks is known, and the observer received how many they are and
-- fail
abbrev pub invariant-loop-at : goal.invariant-loop-at
invariant-loop-at g l = record {
  after : l.range.first ≤ l.at;
  within : (l.at ≡ l.range.first) ⊎ (l.at ≤ l.range.end);
  rows : Tallies l.hunt.strategy l.hunt.job.asked l.range.first l.at (rows_of l.tally);
  leak : FirstLeaking l.hunt.strategy l.hunt.job.asked l.range.first l.at (option_map leak_of l.leak);
  heard :
      HearsSome g.O.HuntObserver.Heard l.fn.observer
      (HuntGoesOn (HasFailures l.hunt.strategy l.hunt.job.asked l.range.first) l.range.may_stop l.range.first
      l.range.end l.at)
      l.observer;
}

abbrev pub decreases-loop-at : goal.decreases-loop-at
decreases-loop-at g l = l.range.end - l.at
