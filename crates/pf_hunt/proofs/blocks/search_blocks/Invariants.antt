use Rattle.std.proofs.Common.{◌≡◌, ◌≤◌, ◌⊎◌, ◌-◌}
use Rattle.std.specs.Prelude.{option_map}
use Rattle.pf_hunt.specs.Hunts.{FirstLeaking, NoneIs, fails}
use Rattle.pf_hunt.specs.Notices.{HuntGoesOn, HearsSome, has_none}
use Rattle.pf_hunt.specs.Views.{failures_of, leak_of}
use Rattle.pf_hunt.proofs.blocks.search_blocks.Given as goal

-- no run before fails, the least of them that leaks is known, and the observer received how many they are
abbrev pub invariant-loop-at : goal.invariant-loop-at
invariant-loop-at g l = record {
  after : l.range.first ≤ l.at;
  within : (l.at ≡ l.range.first) ⊎ (l.at ≤ l.range.end);
  none : NoneIs (fails (failures_of l.hunt)) l.hunt.strategy l.hunt.job.asked l.range.first l.at;
  leak : FirstLeaking l.hunt.strategy l.hunt.job.asked l.range.first l.at (option_map leak_of l.leak);
  heard : HearsSome g.O.HuntObserver.Heard l.fn.observer
      (HuntGoesOn has_none l.range.may_stop l.range.first l.range.end l.at) l.observer;
}

abbrev pub decreases-loop-at : goal.decreases-loop-at
decreases-loop-at g l = l.range.end - l.at
