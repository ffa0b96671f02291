use Rattle.std.proofs.Common.{◌≡◌, ◌≤◌, ◌<◌, ℕ, false, length, get_or}
use Rattle.pf_diagnostics.specs.Positions.{is_newline}
use Rattle.pf_diagnostics.proofs.position.since_newline.Given as goal

-- there is no newline from the start on
abbrev pub invariant-loop-start : goal.invariant-loop-start
invariant-loop-start l = record {
  within : l.start ≤ length l.front;
  none : (k : ℕ) → l.start ≤ k → k < length l.front → is_newline (get_or l.front k 0) ≡ false;
}

abbrev pub decreases-loop-start : goal.decreases-loop-start
decreases-loop-start l = l.start
