-- What is true of a run, of a shrinking so far, and of the end of a job.
use Rattle.std.specs.Prelude.{◌≡◌, ◌⊎◌, ℕ, zero, suc, ◌+◌, Bool, List, ◌++◌, length, Option, Some, None}
use Rattle.pf_terms.specs.Atoms.{name_of}
use Rattle.pf_model.specs.Meaning as meaning
use Rattle.pf_model.specs.Meaning.{schedule, Event, Means}
use Rattle.pf_model.specs.Properties.{some_label}
use Rattle.pf_model.specs.Shrinking as shrinking
use Rattle.pf_model.specs.Shrinking.{by_schedule, shrunk, IsResult, ReportsFailures}
use Rattle.pf_property.specs.Judging.{rules_out}
use Rattle.pf_property.specs.Views.{labels_in}
use Rattle.pf_trace.specs.Written.{AreWritten, AreWrittenSoFar, report_in, reported_so_far}
use Rattle.pf_trace.specs.declared.lines.WrittenReport.{WrittenReport}
use Rattle.pf_shrink.specs.Hunts.{Hunting, begins, searches, ended, next_of, search_result}
use Rattle.pf_shrink.specs.Tried.{tried, tried_from}
use Rattle.pf_request.specs.Job.{Job}
use Rattle.pf_sched.specs.declared.execution.Execution.{Execution}
use Rattle.pf_sched.specs.declared.run.Run.{Run}
use Rattle.pf_sched.specs.declared.shrinking.Shrinking.{Shrinking}
use Rattle.pf_sched.specs.Choosing.{Choosing, StateOf, chooser_of, choices, first_of}
use Rattle.pf_sched.specs.Events.{RunsHave}
use Rattle.pf_sched.specs.Views.{without_memory}
use Rattle.pf_sched.specs.Traces.{Going, IsIn}

-- a run of a job so far where this chooses, with these events, and the state of what chooses
pub record Executes (j : Job) (w : Choosing) (es : List Event) (x : Execution) : Type 0 where
  pub state : StateOf w
  pub run : Going (chooser_of w) (first_of w) j es x.system state
  pub is_in : IsIn w state x.chooser

-- the events of a run so far
abbrev pub events_in : Run → List Event
events_in r = reported_so_far r.written.lines

-- the same with its events, which are written by the names of the module; and whether the label of one rules the
-- property out
pub record IsRunBy (j : Job) (w : Choosing) (r : Run) : Type 0 where
  pub run : Executes j w (events_in r) r.execution
  pub written : AreWrittenSoFar (name_of j.asked.code.atoms) r.written.lines
  pub ruled_out : r.written.ruled_out ≡ some_label (rules_out j.asked.property) (labels_in (events_in r))

-- the run of a job that is no shrinking
abbrev pub IsRunOf : Job → Run → Type 0
IsRunOf j r = (j.asked.runs ≡ zero) × IsRunBy j (choices j.asked.choices) r

-- ---- shrinkings

-- the hunt of a shrinking received true answers only: with them it finds what the shrinking finds, and the runs that
-- were made, with n events in all, are those that the shrinking tries first
pub record IsHuntOf (j : meaning.Job) (h : Hunting) (before : ℕ) : Type 0 where
  pub further : ℕ
  pub given : List ℕ
  pub fails : List ℕ → Bool
  pub after : List (List ℕ)
  pub runs : j.runs ≡ suc further
  pub choices : j.choices ≡ schedule given
  pub reports : ReportsFailures j fails
  pub comes : search_result fails h ≡ shrunk fails (suc further) given
  pub events : RunsHave j after before
  pub order : tried fails (suc further) given ≡ after ++ tried_from fails h

-- a hunt's current schedule, which fails, if there is one
abbrev pub is_at : Hunting → Option (List ℕ)
is_at (begins k ns) = None
is_at (searches k ns c cs) = Some ns
is_at (ended None) = None
is_at (ended (Some f)) = Some f.schedule

-- the report of a hunt's current schedule is kept, written by the names of the module
abbrev pub KeepsReport : meaning.Job → Option (List ℕ) → Option WrittenReport → Type 0
KeepsReport j None kept = Unit {0}
KeepsReport j (Some ns) None = ⊥
KeepsReport j (Some ns) (Some r) = Means (by_schedule j ns) (report_in r) × AreWritten (name_of j.code.atoms) r.lines

-- a shrinking so far: its hunt, the report of its current schedule, and the run of the next schedule
pub record IsShrinkingOf (j : Job) (s : Shrinking) : Type 0 where
  pub hunt : IsHuntOf j.asked s.hunt s.before
  pub report : KeepsReport j.asked (is_at s.hunt) s.report
  pub next : List ℕ
  pub is_next : next_of s.hunt ≡ Some next
  pub run : IsRunBy j (choices (schedule next)) s.run

-- the events of all its runs so far
abbrev pub events_so_far : Shrinking → ℕ
events_so_far s = s.before + length (events_in s.run)

-- ---- the end

-- it is the job's result, or memory ran out
abbrev pub EndsJob : Job → shrinking.Result → Type 0
EndsJob j r = IsResult j.asked r ⊎ (r ≡ without_memory)
