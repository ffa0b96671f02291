use Rattle.std.proofs.Common.{◌≡◌, ◌≤◌, ◌<◌, ◌-◌, ℕ, false, length, get_or}
use Rattle.pf_diagnostics.specs.Positions.{is_newline}
use Rattle.pf_diagnostics.proofs.position.up_to_newline.Given as goal

-- there is no newline before the end
abbrev pub invariant-loop-end : goal.invariant-loop-end
invariant-loop-end l = record {
  within : l.end ≤ length l.after;
  none : (k : ℕ) → k < l.end → is_newline (get_or l.after k 0) ≡ false;
}

abbrev pub decreases-loop-end : goal.decreases-loop-end
decreases-loop-end l = length l.after - l.end
