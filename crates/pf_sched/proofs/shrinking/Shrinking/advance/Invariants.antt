use Rattle.std.proofs.Common.{◌≡◌, ◌+◌}
use Rattle.pf_sched.specs.Parts.{IsShrinkingOf, events_so_far}
use Rattle.pf_sched.specs.Slices.{runs_left}
use Rattle.pf_sched.proofs.shrinking.Shrinking.advance.Given as goal

-- the same shrinking, and as many turns are left as events lack
abbrev pub invariant-loop-shrinking : goal.invariant-loop-shrinking
invariant-loop-shrinking l = IsShrinkingOf l.job l.shrinking
    × (events_so_far l.shrinking + l.left ≡ events_so_far l.fn.self + l.turns)

-- each time round is a run of the hunt
abbrev pub decreases-loop-shrinking : goal.decreases-loop-shrinking
decreases-loop-shrinking l = runs_left l.shrinking.hunt
