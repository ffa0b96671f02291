-- The profile of the language: what a source is read as, which property bytes are, a job's result, and how many events
-- it has.
use Rattle.std.specs.Prelude.{ℕ, zero, suc, ◌+◌, Bool, List, [], ◌∷◌, length, Option, Some, None}
use Rattle.pf_check.proofs.AnyOutcome.{any_outcome}
use Rattle.pf_desks.specs.Desk.{Profile}
use Rattle.pf_model.specs.Evaluation.{evaluated}
use Rattle.pf_model.specs.Meaning.{Job, Choices, seed, schedule, weighted_seed}
use Rattle.pf_model.specs.Shrinking.{Found, Result, report, shrunk_to, nothing_fails, by_schedule, is_failure, shrunk}
use Rattle.pf_property.proofs.AnyProperty.{any_property}
use Rattle.pf_shrink.specs.Tried.{tried}
use Rattle.pf_world.specs.World.{RunProfile}
use Rattle.pf_book.specs.Profile.{reading_from}

-- whether a job fails by a schedule: by the result of its run
abbrev pub fails_by : Job → List ℕ → Bool
fails_by j ns = is_failure (evaluated (by_schedule j ns)).verdict

-- the result of a shrinking that ends so
abbrev pub shrunk_so : Job → Option Found → Result
shrunk_so j None = nothing_fails
shrunk_so j (Some f) = shrunk_to f (evaluated (by_schedule j f.schedule))

-- a job's result: that of its run, worked out, which is its one report; or with runs the shrinking of its schedule. A
-- seed isn't shrunk, nor are there weights but from 1 to 9: no such job is made, and its result is left open
abbrev pub job_result : Job → (runs : ℕ) → Choices → Result
job_result j zero cs = report (evaluated j)
job_result j (suc k) (schedule ns) = shrunk_so j (shrunk (fails_by j) (suc k) ns)
job_result j (suc k) (seed n) = nothing_fails
job_result j (suc k) (weighted_seed n process channel) = nothing_fails

-- ---- events

-- how many events the runs of a job by these schedules have in all
abbrev pub events_by : Job → List (List ℕ) → ℕ
events_by j [] = zero
events_by j (ns ∷ nss) = length (evaluated (by_schedule j ns)).events + events_by j nss

-- how many events a job has: those of its run; or with runs those of all schedules that its shrinking tries. Of what
-- isn't shrunk it is left open
abbrev pub event_count : Job → (runs : ℕ) → Choices → ℕ
event_count j zero cs = length (evaluated j).events
event_count j (suc k) (schedule ns) = events_by j (tried (fails_by j) (suc k) ns)
event_count j (suc k) (seed n) = zero
event_count j (suc k) (weighted_seed n process channel) = zero

-- ---- profiles

-- a source is read as the rules of reading say; bytes are the property that their text says, or none; a job's result is
-- the one that it has in the language
unfoldable pub profile : Profile
profile = record {
  reading = λ bytes. reading_from (any_outcome bytes).0;
  property = λ names bytes. (any_property names bytes).0;
  meaning = λ j. job_result j j.runs j.choices;
}

-- the profile, and the one number of events that a job has in the language
unfoldable pub run_profile : RunProfile
run_profile = record { profile = profile; events = λ j. event_count j j.runs j.choices }
