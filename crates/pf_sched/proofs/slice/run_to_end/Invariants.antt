use Rattle.std.proofs.Common.{◌≡◌, ◌-◌, ◌*◌, max}
use Rattle.pf_sched.proofs.slice.run_to_end.Given as goal

-- it is the job
abbrev pub invariant-loop-more : goal.invariant-loop-more
invariant-loop-more g l = l.parked.job ≡ l.fn.job.value

-- the limit of each of its runs bounds its events
abbrev pub decreases-loop-more : goal.decreases-loop-more
decreases-loop-more g l = max 1 l.parked.job.asked.runs * l.parked.job.asked.limit - l.parked.at
