-- What a source is answered with whose runs by many seeds are asked for: the text that is written and the status.
use Rattle.std.specs.Prelude.{◌≡◌, ◌⊎◌, ℕ, ◌-◌, ◌==◌, Bool, true, false}
use Rattle.std.specs.Prelude.{if◌then◌else◌, is_some, List, [], ◌∷◌, ◌++◌, map, slice_get}
use Rattle.std.specs.Prelude.{flat_map, codes, Option, None, Some, Result, Ok, Err}
use Rattle.std.specs.List.{list_any}
use Rattle.std.specs.Fmt.{decimal}
use Rattle.pf_errors.specs.declared.code.Code.{Code}
use Rattle.pf_errors.specs.declared.fault.OrNoMemory.{OrNoMemory}
use Rattle.pf_errors.specs.declared.fault.OrNoMemory.TheVariants.{NoMemory, Fault}
use Rattle.pf_errors.specs.declared.code.Code.TheVariants.{NoProperty}
use Rattle.pf_model.specs.Meaning.{Event, Report}
use Rattle.pf_model.specs.Properties.{Property}
use Rattle.pf_model.specs.Shrinking.{is_failure}
use Rattle.pf_model.specs.TermText.{line}
use Rattle.pf_model.specs.Text.{outcome_text, report_text}
use Rattle.pf_text.specs.Schedules.{schedule_text}
use Rattle.pf_check.specs.Module.{ReadModule}
use Rattle.pf_property.specs.Views.{property_of}
use Rattle.pf_request.specs.Request.{shrink}
use Rattle.pf_request.specs.Job.{Job}
use Rattle.pf_sched.specs.Asked.{Asks}
use Rattle.pf_strategy.specs.declared.strategy.Sampling.{Sampling}
use Rattle.pf_strategy.specs.declared.strategy.Sampling.TheVariants.{Uniform, Priorities}
use Rattle.pf_strategy.specs.declared.strategy.Strategy.{Strategy}
use Rattle.pf_verdicts.specs.Causes.{cause_of}
use Rattle.pf_verdicts.specs.Further.{AreNone, AreProperties}
use Rattle.pf_hunt.specs.Hunts.{Failures, FirstFailing, SearchedTo, Tallies}
use Rattle.pf_hunt.specs.Notices.{Notice, SearchNotices, TallyNotices}
use Rattle.pf_hunt.specs.Rows.{OutcomeRow}
use Rattle.pf_verdicts.specs.declared.cause.FailureCause.{FailureCause}
use Rattle.pf_verdicts.specs.declared.cause.FailureCause.TheVariants as cause
use Rattle.pf_cli.specs.Args.{HuntArgs, RunArgs}
use Rattle.pf_cli.specs.declared.args.HuntGoal.{HuntGoal}
use Rattle.pf_cli.specs.declared.args.HuntGoal.TheVariants.{Failure, Outcomes}
use Rattle.pf_command.specs.declared.answer.Output.{Output}
use Rattle.pf_command.specs.declared.seek.HuntedJob.{HuntedJob}
use Rattle.pf_errors.specs.Codes.{code_text}
use Rattle.pf_command.specs.Answers.{AnswersRun, AnswersBy, IsNoMemory}
use Rattle.pf_command.specs.Answers.{Refuses, cut_text, atom_names_of, no_memory_report}
use Rattle.pf_cli_messages.specs.Explained.{AsksOf}
use Rattle.pf_check.specs.Reading.{IsModuleOf}

-- ---- what is asked for

-- the property that fails a run for this cause, if one does
abbrev pub failed_property : HuntArgs → FailureCause → Option (List ℕ)
failed_property h cause.Property = Some h.request.property
failed_property h (cause.Further i) = slice_get h.further i
failed_property h cause.Leak = None

-- it is named where a hunt looks for several
abbrev pub named_property : HuntArgs → FailureCause → Option (List ℕ)
named_property h c = elim h.further [ [] ↦ None | (p ∷ ps) ↦ failed_property h c ]

-- the property that a schedule is shrunk by: the one that fails, or else the first
abbrev pub shrunk_property : HuntArgs → FailureCause → List ℕ
shrunk_property h c = elim (failed_property h c) [ None ↦ h.request.property | Some p ↦ p ]

-- the shrinking of a schedule that a hunt finds, by which a property fails
abbrev pub shrinking_of : HuntArgs → (property numbers : List ℕ) → (runs : ℕ) → RunArgs
shrinking_of h property numbers runs = record {
  request = record h.request { property = property; kind = shrink numbers runs };
  edition = h.edition;
  by_seed = None;
}

-- if a schedule is to be shrunk, the shrinking of the empty one isn't refused
abbrev pub MayShrink : HuntArgs → HuntGoal → ReadModule → Type 0
MayShrink h (Failure (Some runs)) m = (j : Job) × AsksOf (shrinking_of h h.request.property [] runs) m (Ok j)
MayShrink h (Failure None) m = Unit {0}
MayShrink h Outcomes m = Unit {0}

-- neither the shrinking nor the run that a hunt asks for is refused, and the run is this job
abbrev pub MayHunt : HuntArgs → ReadModule → Job → Type 0
MayHunt h m j = MayShrink h h.sought m × Asks m h.edition h.request (Ok j)

-- HuntAsksFor h sought m x: the run in whose place those by the seeds go is this job, or what is asked for is refused
-- for this: first the shrinking of the empty schedule, if one is to be shrunk, then the run, and then a further
-- property
pub data HuntAsksFor (h : HuntArgs) : HuntGoal → ReadModule → Result Job Code → Type 0 where
  shrinking_refused : (runs : ℕ) (m : ReadModule) (code : Code) → AsksOf
      (shrinking_of h h.request.property [] runs) m (Err code)
      → HuntAsksFor h (Failure (Some runs)) m (Err code)
  run_refused : (sought : HuntGoal) (m : ReadModule) (code : Code) → MayShrink h sought m
      → Asks m h.edition h.request (Err code)
      → HuntAsksFor h sought m (Err code)
  no_property : (sought : HuntGoal) (m : ReadModule) (j : Job) → MayShrink h sought m
      → Asks m h.edition h.request (Ok j) → AreNone m.code.atoms h.further
      → HuntAsksFor h sought m (Err NoProperty)
  run_asked : (sought : HuntGoal) (m : ReadModule) (j : Job) (ps : List Property) → MayShrink h sought m
      → Asks m h.edition h.request (Ok j) → AreProperties m.code.atoms h.further ps
      → HuntAsksFor h sought m (Ok j)

-- ---- what is reported

-- the choices of a run, event by event: by them as a schedule it runs so again
abbrev pub choices_of : Report → List ℕ
choices_of r = map (λ e. e.choice) r.events

-- a hunt for a time may stop before its end
abbrev pub may_stop : HuntArgs → Bool
may_stop h = is_some h.time

abbrev pub stopped_text : (seeds : ℕ) → List ℕ
stopped_text seeds = codes "stopped after " ++ decimal seeds ++ codes " seeds\n"

-- before what is reported of the seeds to before c comes that the hunt stopped there, unless these are all
abbrev pub front_text : HuntArgs → (c : ℕ) → List ℕ
front_text h c = if c == h.seeds.1 then [] else stopped_text (c - h.seeds.0)

abbrev pub none_text : (seeds : ℕ) → List ℕ
none_text seeds = codes "no failure in " ++ decimal seeds ++ codes " seeds\n"

-- priorities are named, on a line of their own
abbrev pub sampling_text : Sampling → List ℕ
sampling_text Priorities = codes "strategy pos\n"
sampling_text Uniform = []

abbrev pub strategy_text : Strategy → List ℕ
strategy_text w = sampling_text w.sampling

-- the property that fails, on a line of its own, where it is named
abbrev pub failed_text : (named : Option (List ℕ)) → List ℕ
failed_text None = []
failed_text (Some property) = codes "fails " ++ property ++ codes "\n"

-- a seed, and the property that fails, each on a line
abbrev pub seed_lines : (seed : ℕ) → (named : Option (List ℕ)) → List ℕ
seed_lines seed named = codes "seed " ++ decimal seed ++ codes "\n" ++ failed_text named

-- after them the strategy and the choices of the run
abbrev pub seed_text : (seed : ℕ) → (named : Option (List ℕ)) → Strategy → (choices : List ℕ) → List ℕ
seed_text seed named strategy choices =
    seed_lines seed named ++ strategy_text strategy ++ codes "schedule "
    ++ schedule_text choices ++ codes "\n"

abbrev pub verdict_text : Option Bool → List ℕ
verdict_text (Some true) = codes "holds "
verdict_text (Some false) = codes "fails "
verdict_text None = codes "no verdict "

-- whether the property holds, by how many seeds the outcome was met, the least of them, and the outcome's line
abbrev pub row_text : (ℕ → List ℕ) → OutcomeRow → List ℕ
row_text name x =
    verdict_text x.verdict ++ decimal x.count ++ codes " seeds, least " ++ decimal x.least ++ codes ": "
    ++ line (outcome_text name x.outcome)

-- 1 if the property of some run fails, else 0
abbrev pub rows_status : List OutcomeRow → ℕ
rows_status rows = if list_any (λ x. is_failure x.verdict) rows then 1 else 0

-- the report of a run that fails for this cause, by the property that fails
abbrev pub reported_by : FailureCause → Report → Report
reported_by cause.Property r = r
reported_by (cause.Further i) r = record r { verdict = Some false }
reported_by cause.Leak r = r

-- what fails a run besides the first property: these further ones, and leaks where they are failures too
abbrev pub failures_by : HuntArgs → List Property → Failures
failures_by h ps = record { further = ps; leaks = h.leaks }

-- of the seeds to before c this is the least whose run fails, with the report of its run, or none; and the observer of
-- the hunt receives these notices
abbrev pub IsLeastFailure : HuntArgs → Job → List Property → List Notice → (c : ℕ) → Option (ℕ × Report) → Type 0
IsLeastFailure h j ps ns c x =
    FirstFailing (failures_by h ps) h.strategy j.asked h.seeds.0 c x × SearchNotices h.strategy j.asked
    (may_stop h) h.seeds.0
    h.seeds.1 c x ns

-- PrintsSought h bytes j ps notices sought text status: what is reported of the runs of a job by the seeds, with these
-- further properties, by what is sought, if the source has these bytes and the observer receives these notices
pub data PrintsSought (h : HuntArgs) (bytes : List ℕ) (j : Job) (ps : List Property)
    (ns : List Notice) : HuntGoal → List ℕ → ℕ
    → Type 0 where
  -- no run fails of the seeds that it reached
  none_fails : (runs : Option ℕ) (c : ℕ) → SearchedTo (may_stop h) h.seeds.0 h.seeds.1 c → IsLeastFailure h j ps ns
      c None
      → PrintsSought h bytes j ps ns (Failure runs) (front_text h c ++ none_text (c - h.seeds.0)) 0
  -- the least seed whose run fails, the choices of that run, and its report
  seed_fails : (s : ℕ) (r : Report) → IsLeastFailure h j ps ns h.seeds.1 (Some (s, r))
      → PrintsSought h bytes j ps ns (Failure None)
      (seed_text s (named_property h (cause_of ps r)) h.strategy (choices_of r) ++ report_text (atom_names_of j)
      (reported_by (cause_of ps r) r)) 1
  -- or, if memory ran out within the report, the lines of its first events that were written by then, and that it did
  seed_cut : (s : ℕ) (r : Report) (es rest : List Event) → IsLeastFailure h j ps ns h.seeds.1 (Some (s, r))
      → r.events ≡ es ++ rest
      → PrintsSought h bytes j ps ns (Failure None)
      (seed_text s (named_property h (cause_of ps r)) h.strategy (choices_of r) ++ cut_text (atom_names_of j) es) 2
  -- or what the shrinking of these choices is answered with
  seed_shrunk : (s : ℕ) (r : Report) (runs : ℕ) (text : List ℕ) (status : ℕ)
      → IsLeastFailure h j ps ns h.seeds.1 (Some (s, r))
      → AnswersRun (shrinking_of h (shrunk_property h (cause_of ps r)) (choices_of r) runs) bytes text status
      → PrintsSought h bytes j ps ns (Failure (Some runs)) (seed_text s (named_property h
      (cause_of ps r)) h.strategy (choices_of r) ++ text) status
  -- or, if memory ran out within the shrinking, that it did
  seed_alone : (s : ℕ) (r : Report) (runs : ℕ) → IsLeastFailure h j ps ns h.seeds.1 (Some (s, r))
      → PrintsSought h bytes j ps ns (Failure (Some runs)) (seed_text s (named_property h
      (cause_of ps r)) h.strategy (choices_of r) ++ no_memory_report) 2
  -- the strategy, and each outcome that is met by the seeds that it reached
  tallied : (c : ℕ) (rows : List OutcomeRow) → SearchedTo (may_stop h) h.seeds.0 h.seeds.1 c
      → Tallies h.strategy j.asked h.seeds.0 c rows
      → TallyNotices h.strategy j.asked (may_stop h) h.seeds.0 h.seeds.1 c ns
      → PrintsSought h bytes j ps ns Outcomes (front_text h c ++ strategy_text h.strategy
      ++ flat_map (row_text (atom_names_of j)) rows) (rows_status rows)

-- SoughtAnswers h sought bytes notices text status: a source of these bytes, of whose runs by many seeds this is
-- sought, is answered with this text and this status, and the observer of the hunt receives these notices
pub data SoughtAnswers (h : HuntArgs) (sought : HuntGoal) (bytes : List ℕ) : List Notice → List ℕ → ℕ → Type 0 where
  -- something is refused, so that nothing is hunted
  refused : (text : List ℕ) (status : ℕ) → AnswersBy (HuntAsksFor h sought) (λ j t s. ⊥) bytes text status
      → SoughtAnswers h sought bytes [] text status
  -- the job is hunted
  hunted : (m : ReadModule) (j : Job) (ps : List Property) (ns : List Notice) (text : List ℕ) (status : ℕ)
      → IsModuleOf bytes m → HuntAsksFor h sought m (Ok j) → AreProperties m.code.atoms h.further ps
      → PrintsSought h bytes j ps ns sought text status → SoughtAnswers h sought bytes ns text status

-- a source of these bytes, whose runs by many seeds are asked for, is answered with this text and this status, while
-- the observer receives these notices
abbrev pub HuntNotifies : HuntArgs → List Notice → (bytes text : List ℕ) → ℕ → Type 0
HuntNotifies h ns bytes text status = SoughtAnswers h h.sought bytes ns text status

-- and is so answered
abbrev pub HuntAnswers : HuntArgs → (bytes text : List ℕ) → ℕ → Type 0
HuntAnswers h bytes text status = (ns : List Notice) × HuntNotifies h ns bytes text status

-- ---- what is hunted

-- of each source whose module this is
abbrev pub OfEach : ReadModule → (so : (bytes : List ℕ) → List Notice → Type 0) → List Notice → Type 0
OfEach m so ns = (bytes : List ℕ) → IsModuleOf bytes m → so bytes ns

-- the further properties of what is hunted
abbrev pub properties_of : HuntedJob → List Property
properties_of x = map property_of x.further.items

-- what is hunted of a source of these bytes: its module, and the job in whose place those of the seeds go
abbrev pub IsHunted : HuntArgs → (bytes : List ℕ) → HuntedJob → Type 0
IsHunted h bytes x = IsModuleOf bytes x.«module» × HuntAsksFor h h.sought x.«module» (Ok x.job)
    × AreProperties x.«module».code.atoms h.further (properties_of x)

-- something is refused, so that nothing is hunted, and this is the answer; out of memory says nothing
abbrev pub IsNotHunted : HuntArgs → (bytes : List ℕ) → OrNoMemory Output → Type 0
IsNotHunted h bytes NoMemory = Unit {0}
IsNotHunted h bytes (Fault a) = AnswersBy (HuntAsksFor h h.sought) (λ j t s. ⊥) bytes a.text.items a.status

-- ---- the code's own words

-- what is refused by a code is answered so; out of memory says nothing
abbrev pub IsRefusedAs : OrNoMemory Code → OrNoMemory Output → Type 0
IsRefusedAs e NoMemory = Unit {0}
IsRefusedAs NoMemory (Fault a) = ⊥
IsRefusedAs (Fault c) (Fault a) = Refuses a (code_text c)

-- what is reported of a run that fails after its choices: its report; or the lines of its first events, and that memory
-- ran out
abbrev pub PrintsReport : Job → Report → List ℕ → ℕ → Type 0
PrintsReport j r text status =
    ((text ≡ report_text (atom_names_of j) r) × (status ≡ 1))
    ⊎ ((es : List Event) × (rest : List Event) × (r.events ≡ es ++ rest) × (text ≡ cut_text (atom_names_of j) es)
    × (status ≡ 2))

-- what the shrinking of its choices is answered with; or that memory ran out within it
abbrev pub PrintsShrinking : HuntArgs → (property bytes : List ℕ) → Report → (runs : ℕ) → List ℕ → ℕ → Type 0
PrintsShrinking h property bytes r runs text status =
    AnswersRun (shrinking_of h property (choices_of r) runs) bytes text status ⊎ IsNoMemory text status
