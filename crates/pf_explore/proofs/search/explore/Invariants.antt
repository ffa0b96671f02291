use Rattle.std.proofs.Common.{◌≡◌, ◌≤◌}
use Rattle.std.specs.Prelude.{IfSome}
use Rattle.pf_explore_laws.specs.Last.{HoldsWithinLast}
use Rattle.pf_explore.specs.Explored.{last_level}
use Rattle.pf_explore.proofs.search.explore.Given as goal

-- the runs are of the same job and at the same pace, and its property holds of those of each level before; no more runs
-- are left than may be
abbrev pub invariant-loop-most : goal.invariant-loop-most
invariant-loop-most g l =
    (g.R.ScheduledRuns.asked l.runs ≡ g.R.ScheduledRuns.asked l.fn.runs)
    × (g.P.Pace.may_stop l.pace ≡ g.P.Pace.may_stop l.fn.pace)
    × (IfSome l.within (λ k.
    HoldsWithinLast (g.R.ScheduledRuns.asked l.fn.runs).last k (g.R.ScheduledRuns.asked l.fn.runs).job)
    × ((l.within ≡ last_level l.most) × (l.left ≤ l.budget)))
