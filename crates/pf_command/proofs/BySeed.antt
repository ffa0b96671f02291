-- What is reported of a run by a seed is reported of the job by the schedule of their choices.
use Rattle.std.proofs.Common.{◌≡◌, ℕ, zero, List, Option, None, Some, inl, inr, refl}
use Rattle.std.specs.Prelude.{IsNone}
use Rattle.pf_errors.specs.declared.fault.OrNoMemory.{OrNoMemory}
use Rattle.pf_streams.specs.declared.stream.StreamFault.{StreamFault}
use Rattle.pf_model.specs.Meaning as meaning
use Rattle.pf_model.specs.Meaning.{Means, Report}
use Rattle.pf_request.specs.Job.{Job}
use Rattle.pf_strategy.specs.declared.strategy.SeedChoice.{SeedChoice}
use Rattle.pf_strategy.proofs.Meant.{replay_of_seeds}
use Rattle.pf_sched.proofs.Seeded.{means_by_seed}
use Rattle.pf_sched.specs.Choosing.{MeansFor, choosing_of}
use Rattle.pf_sched.specs.Printing.{HasPrinted, HasStopped}
use Rattle.pf_sched.specs.declared.printing.PrintedRun.{PrintedRun}
use Rattle.pf_chart.specs.declared.manner.Manner.{Manner}
use Rattle.pf_command.specs.Charts.{AreNamesIn, DrawsJob, DrawsRun, IsOfRun}
use Rattle.pf_command.specs.AskedRuns.{RunsAs, scheduled}
use Rattle.pf_command.specs.Hunts.{choices_of}
use Rattle.pf_command.specs.declared.answer.Output.{Output}
use Rattle.pf_command.proofs.Drawn.{draws_one_run}

-- the report by a seed is the one by its choices
replayed : (j : Job) (g : SeedChoice) (r : Report) → MeansFor (choosing_of (Some g) j.asked) j.asked r
    → Means (scheduled j (choices_of r)).asked r
replayed j g r means =
    let m = replay_of_seeds g.strategy j.asked g.seed r (means_by_seed g j.asked r means) in
    record { transitions = m.transitions; last = m.last; state = m.state; run = m.run; report = m.report }

-- a run that was printed is that of a job by its own choices
pub printed_as : (by_seed : Option SeedChoice) (j : Job) (p : PrintedRun) (w0 w1 : Option (List ℕ))
    → (IsNone by_seed → j.asked.runs ≡ zero) → HasPrinted j (choosing_of by_seed j.asked) p w0 w1
    → (k : Job) × RunsAs by_seed j k × (k.asked.runs ≡ zero) × HasPrinted k (choosing_of None k.asked) p w0 w1
printed_as None j p w0 w1 one h = (j, refl, one refl, h)
printed_as (Some g) j p w0 w1 one (r, means, verdict, waits, out) = (
  scheduled j (choices_of r),
  (r, means_by_seed g j.asked r means, refl),
  refl,
  (r, replayed j g r means, verdict, waits, out),
)

-- and so is one that was cut short
pub stopped_as : (e : OrNoMemory StreamFault) (by_seed : Option SeedChoice) (j : Job) (w0 w1 : Option (List ℕ))
    (n0 n1 : ℕ) → (IsNone by_seed → j.asked.runs ≡ zero) → HasStopped e j (choosing_of by_seed j.asked) w0 w1 n0 n1
    → (k : Job) × RunsAs by_seed j k × (k.asked.runs ≡ zero)
    × HasStopped e k (choosing_of None k.asked) w0 w1 n0 n1
stopped_as e None j w0 w1 n0 n1 one h = (j, refl, one refl, h)
stopped_as e (Some g) j w0 w1 n0 n1 one (r, means, stops) =
    (scheduled j (choices_of r), (r, means_by_seed g j.asked r means, refl), refl, (r, replayed j g r means, stops))

-- ---- charts

-- a report by a seed is one by a schedule
pub of_run : (by_seed : Option SeedChoice) (j : meaning.Job) (r : Report) → MeansFor (choosing_of by_seed j) j r
    → IsOfRun j r
of_run None j r means = inl means
of_run (Some g) j r means = inr (choices_of r, replay_of_seeds g.strategy j g.seed r (means_by_seed g j r means))

-- the names are of the same functions by a schedule
names_scheduled : (j : Job) (numbers : List ℕ) (r : Report) (names : List (List ℕ)) → AreNamesIn j.asked r names
    → AreNamesIn (scheduled j numbers).asked r names
names_scheduled j numbers r names (k, h, d) = (
  k,
  record {
    code = h.code;
    root = h.root;
    edition = h.edition;
    limit = h.limit;
    events = h.events;
  },
  d,
)

-- a run that is drawn is that of a job by its own choices
pub drawn_as : (by_seed : Option SeedChoice) (j : Job) (root : List ℕ) (m : Manner) (r : Report) (a : Output)
    → (IsNone by_seed → j.asked.runs ≡ zero) → MeansFor (choosing_of by_seed j.asked) j.asked r
    → DrawsRun j.asked root m r a → (k : Job) × RunsAs by_seed j k × DrawsJob root m k a.text.items a.status
drawn_as None j root m r a one means drawn = (j, refl, draws_one_run root m j a (one refl) (r, means, drawn))
drawn_as (Some g) j root m r a one means (names, named, drawn, status) =
    let k = scheduled j (choices_of r) in (
      k,
      (r, means_by_seed g j.asked r means, refl),
      draws_one_run root m k a refl
          (r, replayed j g r means, (names, names_scheduled j (choices_of r) r names named, drawn, status)),
    )
