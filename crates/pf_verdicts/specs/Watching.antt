-- Runs of which one property reads the events while they pass; all others are judged by the outcome alone.
use Rattle.std.specs.Prelude.{◌≡◌, Bool, true, false, if◌then◌else◌, All, List, [], ◌∷◌, Option}
use Rattle.pf_model.specs.Properties.{Outcome, Property, no_crash, never, verdict}
use Rattle.pf_property.specs.Views.{property_of}
use Rattle.pf_request.specs.Job.{Job}
use Rattle.pf_verdicts.specs.declared.watched.WatchedJob.{WatchedJob}
use Rattle.pf_verdicts.specs.declared.watched.WorkerJobs.{WorkerJobs}

-- what a run shows plays a part in whether a property holds, and not the outcome alone
abbrev pub reads_events : Property → Bool
reads_events no_crash = true
reads_events (never p) = true
reads_events q = false

-- the verdict of a property, where that of the one that is watched is known: its own, or what the outcome says
abbrev pub verdict_seen : (watched : Option Bool) → Outcome → Property → Option Bool
verdict_seen watched o q = if reads_events q then watched else verdict q [] o

-- a property that reads events is the one that is watched
abbrev pub IsSeen : (watched q : Property) → Type 0
IsSeen watched q = reads_events q ≡ true → q ≡ watched

-- the same job by another property
abbrev pub by_property : Job → Property → Job
by_property j p = record j { asked = record j.asked { property = p } }

-- the job of a hunt with these further properties by the one that is watched, which alone reads events
pub record Watches (j : Job) (ps : List Property) (w : WatchedJob) : Type 0 where
  pub job : w.job ≡ by_property j (property_of w.property)
  pub first : property_of w.first ≡ j.asked.property
  pub seen : All (IsSeen (property_of w.property)) (j.asked.property ∷ ps)

-- the jobs of the workers of such a hunt
pub record AreJobsOf (j : Job) (ps : List Property) (x : WorkerJobs) : Type 0 where
  pub others : All (λ k. k ≡ j) x.others.items
  pub watched : All (Watches j ps) x.watched.items
