-- What the fields of a finished job stand for.
use Rattle.pf_sched.specs.declared.finished.JobEnd.{JobEnd}
use Rattle.pf_sched.specs.declared.finished.JobEnd.TheVariants as ending
use Rattle.pf_sched.specs.declared.finished.Finished.TheInside as finished
use Rattle.pf_sched.specs.Views.{FinishedView, view_of_finished, without_memory}

-- a job that ended so
abbrev pub ended_as : JobEnd → FinishedView
ended_as (ending.Whole w) = w
ended_as (ending.Memory job) = view_of_finished job.value without_memory

abbrev pub finished_in : finished.Inside → FinishedView
finished_in f = ended_as f.ending
