use Rattle.std.proofs.Common.{◌≡◌}
use Rattle.pf_explore.proofs.Pending.{IsPending}
use Rattle.pf_explore.proofs.level.search_level.Given as goal

-- the runs are of the same job and at the same pace, and each schedule holds that comes before this one, within so many
-- steps, but for those that are left out
abbrev pub invariant-loop-made : goal.invariant-loop-made
invariant-loop-made g l =
    (g.R.ScheduledRuns.asked l.runs ≡ g.R.ScheduledRuns.asked l.fn.runs)
    × (g.P.Pace.may_stop l.pace ≡ g.P.Pace.may_stop l.fn.pace)
    × IsPending (g.R.ScheduledRuns.asked l.fn.runs).last (g.R.ScheduledRuns.asked l.fn.runs).job l.most l.all l.steps
    l.schedule.items
