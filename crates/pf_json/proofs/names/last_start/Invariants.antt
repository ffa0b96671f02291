use Rattle.std.proofs.Common.{◌≡◌, ◌≤◌, None, drop, length}
use Rattle.pf_json.specs.Names.{last_start}
use Rattle.pf_json.proofs.names.last_start.Given as goal

-- the words begin nowhere from here on
abbrev pub invariant-loop-start : goal.invariant-loop-start
invariant-loop-start l = record {
  within : l.start ≤ length l.text;
  none : last_start l.words (drop l.start l.text) ≡ None;
}

abbrev pub decreases-loop-start : goal.decreases-loop-start
decreases-loop-start l = l.start
