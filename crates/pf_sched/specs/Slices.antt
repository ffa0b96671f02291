-- What a slice makes of a parked job.
use Rattle.std.specs.Prelude.{◌≡◌, ◌⊎◌, ◌+◌, ◌-◌, ◌<◌, ◌≤◌, ℕ, zero, suc, Bool, true, false, List, [], length, Option}
use Rattle.std.specs.Prelude.{Some, None}
use Rattle.rand_pcg.specs.Lcg.{Lcg}
use Rattle.pf_terms.specs.Atoms.{name_of}
use Rattle.pf_choice.specs.declared.choices.Choices.{Choices}
use Rattle.pf_model.specs.Shrinking as shrinking
use Rattle.pf_model.specs.Shrinking.{by_schedule, Found, IsResult, nothing_fails, shrunk_to}
use Rattle.pf_model.specs.Meaning as meaning
use Rattle.pf_model.specs.Meaning.{Event, Means, Report, schedule}
use Rattle.pf_shrink.specs.Hunts.{Hunting, begins, searches, ended}
use Rattle.pf_request.specs.Job.{Job}
use Rattle.pf_trace.specs.Written.{AreWritten, report_in}
use Rattle.pf_trace.specs.declared.lines.WrittenReport.{WrittenReport}
use Rattle.pf_system.specs.Steps.{actors_in}
use Rattle.pf_sched.specs.declared.execution.Execution.{Execution}
use Rattle.pf_sched.specs.declared.result.JobResult.{JobResult}
use Rattle.pf_sched.specs.declared.run.Run.{Run}
use Rattle.pf_sched.specs.declared.shrinking.ShrinkingAdvance.{ShrinkingAdvance}
use Rattle.pf_sched.specs.declared.shrinking.ShrinkingAdvance.TheVariants as advance
use Rattle.pf_sched.specs.declared.slice.Slice.{Slice}
use Rattle.pf_sched.specs.declared.slice.Slice.TheVariants.{More, Done}
use Rattle.pf_sched.specs.Views.{IsWritten, ParkedView, view_of_parked, result_of, without_memory}
use Rattle.pf_sched.specs.Choosing.{Choosing, MeansFor}
use Rattle.pf_sched.specs.Events.{HasEvents}
use Rattle.pf_sched.specs.Parts.{Executes, IsRunBy, IsShrinkingOf, events_in, events_so_far}
use Rattle.pf_sched.specs.Traces.{Makes}

-- a job has more than n events
abbrev pub GoesPast : Job → ℕ → Type 0
GoesPast j n = (m : ℕ) × HasEvents j.asked m × (n < m)

-- a job has this result, and has at most n events
abbrev pub EndsBy : Job → ℕ → shrinking.Result → Type 0
EndsBy j n r = IsResult j.asked r × ((m : ℕ) × HasEvents j.asked m × (m ≤ n))

-- a slice of n turns: the job goes on after n events more, if it has more than those; else it is over, with its
-- result, or memory ran out
abbrev pub SimulatesSlice : ParkedView → (turns : ℕ) → Slice → Type 0
SimulatesSlice p turns (More q) = (q ≡ view_of_parked p.job (p.at + turns)) × GoesPast p.job (p.at + turns)
SimulatesSlice p turns (Done f) = (f.job ≡ p.job) × (EndsBy p.job (p.at + turns) f.result ⊎ (f.result ≡ without_memory))

-- ---- within a slice

-- a run goes on from where it is by n events, and isn't over; or it is over, after n more at most
abbrev pub Advances : (before after turns : ℕ) → (over : Bool) → (stops : Type 0) → Type 0
Advances before after turns true stops = (before ≤ after) × (after ≤ before + turns) × stops
Advances before after turns false stops = (after ≡ before + turns) × (stops → ⊥)

-- a run is over where it is: nobody may go, or no step is left
abbrev pub IsRunOver : (limit : ℕ) → Execution → Type 0
IsRunOver limit x = (actors_in x.system ≡ []) ⊎ (limit - x.system.steps ≡ zero)

-- a run goes on, whichever job's it is and whatever chooses, and a trace receives all its events
abbrev pub SimulatesEvents : {T : Type 0} (Reported : T → meaning.Job → List Event → Type 0) (limit : ℕ)
    (old : Execution) (t : T) (new : Execution) (u : T) (turns : ℕ) (over : Bool) → Type 0
SimulatesEvents Reported limit old t new u turns over =
    (j : Job) (w : Choosing) (es : List Event) → j.asked.limit ≡ limit → Executes j w es old → Reported t j.asked es
    → (es' : List Event) × Executes j w es' new × Reported u j.asked es' × Advances (length es) (length es') turns over
    (IsRunOver limit new)

-- a run of a job where this chooses is over, and a trace received all its events
abbrev pub IsComplete : {T : Type 0} (Reported : T → meaning.Job → List Event → Type 0) → Job → Choosing
    → Execution → T → Type 0
IsComplete Reported j w x t = (es : List Event) × Executes j w es x × Reported t j.asked es × IsRunOver j.asked.limit x

-- a run of a job goes on with what is written of its events, whatever chooses
abbrev pub RunAdvances : Job → (old new : Run) (turns : ℕ) (over : Bool) → Type 0
RunAdvances j old new turns over =
    (w : Choosing) → IsRunBy j w old
    → IsRunBy j w new × Advances (length (events_in old)) (length (events_in new)) turns over
    (IsRunOver j.asked.limit new.execution)

-- a report is the one of a job's run where this chooses, written by the names of its module
abbrev pub IsReportBy : Job → Choosing → WrittenReport → Type 0
IsReportBy j w r = MeansFor w j.asked (report_in r) × AreWritten (name_of j.asked.code.atoms) r.lines

-- ---- within a shrinking

-- choices are those of the next schedule, if there is one
abbrev pub OpensNext : (next : Option (List ℕ)) → Option (Choices Lcg) → Type 0
OpensNext None None = Unit {0}
OpensNext None (Some q) = ⊥
OpensNext (Some ns) None = ⊥
OpensNext (Some ns) (Some q) = Makes (schedule ns) q

-- what a hunt found, with the report of its schedule; or that nothing fails
abbrev pub ReportsFound : meaning.Job → Option Found → shrinking.Result → Type 0
ReportsFound j None r = r ≡ nothing_fails
ReportsFound j (Some f) r = (report : Report) × Means (by_schedule j f.schedule) report × (r ≡ shrunk_to f report)

-- a job has this result after n events, and its report is written by the names of its module
abbrev pub JobEvaluatesTo : Job → ℕ → JobResult → Type 0
JobEvaluatesTo j n r = EndsBy j n (result_of r) × IsWritten (name_of j.asked.code.atoms) r

-- a shrinking goes on at n events, if it has more than those; or it is over, after n at most
abbrev pub ShrinkingGoesOn : Job → (at : ℕ) → ShrinkingAdvance → Type 0
ShrinkingGoesOn j n (advance.More s) = IsShrinkingOf j s × (events_so_far s ≡ n) × GoesPast j n
ShrinkingGoesOn j n (advance.Over r) = JobEvaluatesTo j n r

-- how many runs a hunt may still make
abbrev pub runs_left : Hunting → ℕ
runs_left (begins k ns) = suc k
runs_left (searches k ns c cs) = suc k
runs_left (ended f) = zero

-- the next run of a shrinking begins after n events, as one of m at most; or it is over, with n events in all
abbrev pub NextRunFollows : Job → (at runs : ℕ) → ShrinkingAdvance → Type 0
NextRunFollows j n k (advance.More s) = IsShrinkingOf j s × (events_so_far s ≡ n) × (runs_left s.hunt ≤ k)
NextRunFollows j n k (advance.Over r) = JobEvaluatesTo j n r
