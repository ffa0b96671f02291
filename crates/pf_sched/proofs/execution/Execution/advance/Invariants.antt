use Rattle.std.proofs.Common.{◌≡◌, ◌+◌, List, length}
use Rattle.pf_request.specs.Job.{Job}
use Rattle.pf_model.specs.Meaning.{Event}
use Rattle.pf_sched.specs.Choosing.{Choosing}
use Rattle.pf_sched.specs.Parts.{Executes}
use Rattle.pf_sched.proofs.execution.Execution.advance.Given as goal

-- the run of the same job where the same chooses, and its trace received one event more for each turn that was made
abbrev pub invariant-loop : goal.invariant-loop
invariant-loop g l =
    (j : Job) (w : Choosing) (es : List Event) → j.asked.limit ≡ l.limit → Executes j w es l.fn.self
    → g.T.Trace.Reported l.fn.trace j.asked es
    → (now : List Event) × Executes j w now l.self × g.T.Trace.Reported l.trace j.asked now
    × (length now ≡ length es + l.counter)
