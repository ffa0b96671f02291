-- What the fields of a parked job stand for, and what is true of them.
use Rattle.std.specs.Prelude.{ℕ, length}
use Rattle.pf_request.specs.Job.{Job}
use Rattle.pf_sched.specs.declared.parked.Parked.TheInside as parked
use Rattle.pf_sched.specs.declared.parked.ParkedWork.{ParkedWork}
use Rattle.pf_sched.specs.declared.parked.ParkedWork.TheVariants as work
use Rattle.pf_sched.specs.Views.{ParkedView, view_of_parked}
use Rattle.pf_sched.specs.Parts.{IsRunOf, IsShrinkingOf, events_in, events_so_far}

-- the events so far
abbrev pub at_of : ParkedWork → ℕ
at_of (work.Run run) = length (events_in run.value)
at_of (work.Shrinking shrinking) = events_so_far shrinking.value

abbrev pub parked_in : parked.Inside → ParkedView
parked_in p = view_of_parked p.job.value (at_of p.work)

-- it is the run of the job, or its shrinking
abbrev pub IsWorkOf : Job → ParkedWork → Type 0
IsWorkOf j (work.Run run) = IsRunOf j run.value
IsWorkOf j (work.Shrinking shrinking) = IsShrinkingOf j shrinking.value

abbrev pub IsAtWork : parked.Inside → Type 0
IsAtWork p = IsWorkOf p.job.value p.work
