-- What a source is answered with, before it is printed.
use Rattle.std.specs.Prelude.{◌≡◌, ◌<◌, ℕ, List, Option, Some}
use Rattle.pf_request.specs.Job.{Job}
use Rattle.pf_check.specs.Reading.{IsModuleOf}
use Rattle.pf_hunt.specs.Notices.{Notice}
use Rattle.pf_model.specs.Properties.{Property}
use Rattle.pf_hunt.specs.Views.{failure_of, further_of}
use Rattle.pf_cli.specs.Args.{HuntArgs, RunArgs, view_of_hunt_args}
use Rattle.pf_cli.specs.declared.args.HuntGoal.{HuntGoal}
use Rattle.pf_cli.specs.declared.args.HuntGoal.TheVariants.{Failure}
use Rattle.pf_strategy.specs.declared.strategy.SeedChoice.{SeedChoice}
use Rattle.pf_command.specs.Answers.{Counts, ReportsJob}
use Rattle.pf_command.specs.AskedRuns.{RunAnswers, RunCounts, RunsAs}
use Rattle.pf_command.specs.Hunts.{IsLeastFailure, PrintsSought, SoughtAnswers}
use Rattle.pf_command.specs.Streams.{Answering, IsOutput, WentOut}
use Rattle.pf_command.specs.declared.answers.Answer.{Answer}
use Rattle.pf_command.specs.declared.answers.Answer.TheVariants.{Reported, Run, Found}
use Rattle.pf_command.specs.declared.one_run.RunToPrint.{RunToPrint}

-- the run that is asked for is that of this job
abbrev pub IsRunOf : RunToPrint → Job → Type 0
IsRunOf r k = RunsAs r.by_seed r.job k

-- what is reported of it
abbrev pub ReportsRun : RunToPrint → List ℕ → ℕ → Type 0
ReportsRun r text status = (k : Job) × IsRunOf r k × ReportsJob k text status

-- what may be said of an answer where the source has these bytes, and the observer of a hunt received these notices:
-- its text, what is reported of the run, or of the run that fails
abbrev pub MaySay : (bytes : List ℕ) → List Notice → Answer → List ℕ → ℕ → Type 0
MaySay bytes ns (Reported a) text status = IsOutput a text status
MaySay bytes ns (Run r) text status = ReportsRun r text status
MaySay bytes ns (Found f) text status = PrintsSought (view_of_hunt_args f.args.now) bytes f.hunt.job
    (further_of f.hunt) ns (Failure f.runs) text status

-- a run that fails is the first of the module of the source that does
abbrev pub IsFound : (bytes : List ℕ) → List Notice → Answer → Type 0
IsFound bytes ns (Reported a) = Unit {0}
IsFound bytes ns (Run r) = Unit {0}
IsFound bytes ns (Found f) = IsModuleOf bytes f.«module» × IsLeastFailure (view_of_hunt_args f.args.now) f.hunt.job
    (further_of f.hunt) ns (view_of_hunt_args f.args.now).seeds.1 (Some (failure_of f.failure))

-- whatever may be said of it answers a source of these bytes
abbrev pub IsAnswerTo : Answering → (bytes : List ℕ) → Answer → Type 0
IsAnswerTo P bytes x = (ns : List Notice) × IsFound bytes ns x
    × ((text : List ℕ) (status : ℕ) → MaySay bytes ns x text status → P bytes text status)

-- after it was printed so many processes still wait: those of the report of a run, or as many as before
abbrev pub WaitsAs : Answer → (old new : ℕ) → (written_old written_new : Option (List ℕ)) → ℕ → Type 0
WaitsAs (Reported a) old new w0 w1 status = new ≡ old
WaitsAs (Run r) old new w0 w1 status = (k : Job) × IsRunOf r k × WentOut (Counts k old new) w0 w1 status
WaitsAs (Found f) old new w0 w1 status = new ≡ old

-- ---- of a run

-- a job, or its run by a seed: the answer of a shrinking, or a run
abbrev pub JobEndsAs : (by_seed : Option SeedChoice) → Job → Answer → Type 0
JobEndsAs by_seed j (Reported a) =
    RunsAs by_seed j j × (0 < j.asked.runs) × ReportsJob j a.text.items a.status
JobEndsAs by_seed j (Run r) = (r.job ≡ j) × (r.by_seed ≡ by_seed)
JobEndsAs by_seed j (Found f) = ⊥

-- a run that is asked for of a source of these bytes: the answer, and nobody is counted; or a run, of which what is
-- reported answers them, and who is counted waits
abbrev pub RunEndsAs : RunArgs → (bytes : List ℕ) → Answer → Type 0
RunEndsAs a bytes (Reported o) = RunAnswers a bytes o.text.items o.status
    × ((old : ℕ) → RunCounts a old old bytes o.text.items o.status)
RunEndsAs a bytes (Run r) = (k : Job) → IsRunOf r k
    → ((text : List ℕ) (status : ℕ) → ReportsJob k text status → RunAnswers a bytes text status)
    × ((old new : ℕ) (text : List ℕ) (status : ℕ) → Counts k old new text status
    → RunCounts a old new bytes text status)
RunEndsAs a bytes (Found f) = ⊥

-- ---- of a hunt

-- whatever may be said of it is reported of the runs of this job
abbrev pub PrintsAs : HuntArgs → (bytes : List ℕ) → Job → List Property → HuntGoal → Answer → List Notice → Type 0
PrintsAs h bytes j ps sought x ns =
    IsFound bytes ns x × ((text : List ℕ) (status : ℕ) → MaySay bytes ns x text status
    → PrintsSought h bytes j ps ns sought text status)

-- so a source of these bytes may be answered
abbrev pub HuntEndsAs : HuntArgs → HuntGoal → (bytes : List ℕ) → Answer → List Notice → Type 0
HuntEndsAs h sought bytes x ns =
    IsFound bytes ns x × ((text : List ℕ) (status : ℕ) → MaySay bytes ns x text status
    → SoughtAnswers h sought bytes ns text status)
