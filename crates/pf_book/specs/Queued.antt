-- The jobs that wait for a worker.
use Rattle.std.specs.Prelude.{ℕ, Bool, true, false, List, Option, Some, None}
use Rattle.pf_request.specs.Job.{Job}
use Rattle.pf_desks.specs.Desk.{TrialState, queued, done, Trial, held_at}

-- nothing is filed yet
abbrev pub is_undone : TrialState → Bool
is_undone (done r) = false
is_undone s = true

abbrev pub job_in_state : Job → TrialState → Option Job
job_in_state j queued = Some j
job_in_state j s = None

abbrev pub queued_job : Trial → Option Job
queued_job t = job_in_state t.job t.state

abbrev pub job_of_trial : Option Trial → Option Job
job_of_trial None = None
job_of_trial (Some t) = queued_job t

-- the job of the trial of a ticket, where it is queued
abbrev pub job_at : List (Option Trial) → ℕ → Option Job
job_at ts t = job_of_trial (held_at ts t)
