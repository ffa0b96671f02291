-- What the fields of a job with its whole result stand for, and what is true of them.
use Rattle.pf_terms.specs.Atoms.{name_of}
use Rattle.pf_model.specs.Shrinking.{IsResult}
use Rattle.pf_sched.specs.declared.result_block.JobWithResult.{JobWithResult}
use Rattle.pf_sched.specs.declared.result_block.Whole.TheInside as whole
use Rattle.pf_sched.specs.Views.{FinishedView, IsWritten, view_of_finished, result_of}

abbrev pub view_of_came : JobWithResult → FinishedView
view_of_came c = view_of_finished c.job.value (result_of c.result)

abbrev pub whole_in : whole.Inside → FinishedView
whole_in w = view_of_came w.came.value

-- the result is that of the job, and is written by the names of its module
abbrev pub IsSoundCame : JobWithResult → Type 0
IsSoundCame c = IsResult c.job.value.asked (result_of c.result)
    × IsWritten (name_of c.job.value.asked.code.atoms) c.result

abbrev pub IsSound : whole.Inside → Type 0
IsSound w = IsSoundCame w.came.value
