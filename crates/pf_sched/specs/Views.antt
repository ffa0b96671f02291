-- What the code's own results, parked runs and finished runs stand for.
use Rattle.std.specs.Prelude.{ℕ, List, refl}
use Rattle.std.specs.Coded.{Coded, code_by, coded×, coded_ℕ}
use Rattle.pf_errors.specs.declared.code.Code.{Code}
use Rattle.pf_errors.specs.declared.code.Code.TheVariants as code
use Rattle.pf_model.specs.Shrinking as shrinking
use Rattle.pf_model.specs.Shrinking.{found}
use Rattle.pf_request.specs.Job.{Job}
use Rattle.pf_request.specs.Encoding.{coded_job}
use Rattle.pf_request.specs.ReportEncoding.{coded_result}
use Rattle.pf_request.specs.Job.{memory_report}
use Rattle.pf_trace.specs.Written.{AreWritten, report_in}
use Rattle.pf_sched.specs.declared.result.JobResult.{JobResult}
use Rattle.pf_sched.specs.declared.result.JobResult.TheVariants as r
use Rattle.pf_sched.specs.declared.refusal.JobRefusal.{JobRefusal}
use Rattle.pf_sched.specs.declared.refusal.JobRefusal.TheVariants as refusal

-- the result of a job
abbrev pub result_of : JobResult → shrinking.Result
result_of (r.Report w) = shrinking.report (report_in w)
result_of (r.Shrunk complete schedule w) = shrinking.shrunk_to (found schedule.value.items complete) (report_in w)
result_of r.NothingFails = shrinking.nothing_fails

-- the lines of its report are those of the report's events, if atoms have these names
abbrev pub IsWritten : (name : ℕ → List ℕ) → JobResult → Type 0
IsWritten name (r.Report w) = AreWritten name w.lines
IsWritten name (r.Shrunk complete schedule w) = AreWritten name w.lines
IsWritten name r.NothingFails = Unit {0}

abbrev pub code_of : JobRefusal → Code
code_of refusal.NoRoot = code.NoRoot
code_of refusal.NoProperty = code.NoProperty
code_of refusal.OutOfRange = code.OutOfRange
code_of refusal.WeightsOutOfRange = code.WeightsOutOfRange

-- a job that is parked: its run, or all runs of a shrinking one after another, after n events
pub record ParkedView : Type 0 where
  pub job : Job
  pub at : ℕ

abbrev pub view_of_parked : Job → ℕ → ParkedView
view_of_parked j n = record { job = j; at = n }

abbrev pub coded_parked_view : Coded ParkedView
coded_parked_view = code_by _ (coded× coded_job coded_ℕ) (λ p. (p.job, p.at)) (λ p. view_of_parked p.0 p.1) (λ _. refl)

-- a job whose runs are over, and its result
pub record FinishedView : Type 0 where
  pub job : Job
  pub result : shrinking.Result

abbrev pub view_of_finished : Job → shrinking.Result → FinishedView
view_of_finished j r = record { job = j; result = r }

abbrev pub coded_finished_view : Coded FinishedView
coded_finished_view = code_by _ (coded× coded_job coded_result) (λ f. (f.job, f.result))
    (λ p. view_of_finished p.0 p.1) (λ _. refl)

abbrev pub without_memory : shrinking.Result
without_memory = shrinking.report memory_report
