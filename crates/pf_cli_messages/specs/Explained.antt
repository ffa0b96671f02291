-- What is said of the processes of the run that is asked for of a source.
use Rattle.std.specs.Prelude.{◌≡◌, ◌++◌, ℕ, zero, List, [], ◌∷◌, Option, Some, None, Result, Ok, Err}
use Rattle.pf_errors.specs.declared.code.Code.{Code}
use Rattle.pf_check.specs.Reads.{Reads, refused}
use Rattle.pf_cli.specs.Args.{RunArgs}
use Rattle.pf_model.specs.Configuration.{Configuration}
use Rattle.pf_model.specs.Meaning as meaning
use Rattle.pf_model.specs.Meaning.{Report}
use Rattle.pf_check.specs.Reading.{IsModuleOf}
use Rattle.pf_positions.specs.Placed.{ArePlaces}
use Rattle.pf_positions.specs.declared.places.Position.{Position}
use Rattle.pf_request.specs.Job.{Job}
use Rattle.pf_check.specs.Module.{ReadModule}
use Rattle.pf_sched.specs.Asked.{Asks}
use Rattle.pf_sched.specs.Choosing.{MeansFor, choosing_of}
use Rattle.pf_strategy.specs.declared.strategy.SeedChoice.{SeedChoice}
use Rattle.pf_process_status.specs.Fates.{AreStandings}
use Rattle.pf_process_status.specs.Known.{RunLeadsTo, module_of_run, events_of}
use Rattle.pf_process_status.specs.Lines.{IsLine}
use Rattle.pf_process_status.specs.Noted.{ReportsPoints}
use Rattle.pf_process_status.specs.declared.known.KnownRun.{KnownRun}
use Rattle.pf_process_status.specs.declared.standing.ProcessStatus.{ProcessStatus}

-- a run is that of a job and has these events
pub record IsKnownRunOf (j : meaning.Job) (r : Report) (k : KnownRun) : Type 0 where
  pub code : module_of_run k ≡ j.code
  pub root : k.root.0 ≡ j.root
  pub edition : k.edition ≡ j.edition
  pub limit : k.limit ≡ j.limit
  pub events : events_of k ≡ r.events

-- a line of each process, with a line end
abbrev pub AreStatusLines : KnownRun → List (Option Position) → List ProcessStatus → List ℕ → Type 0
AreStatusLines k places [] text = text ≡ []
AreStatusLines k places (x ∷ xs) text =
    (line : List ℕ) × (rest : List ℕ) × IsLine k places x line × AreStatusLines k places xs rest
    × (text ≡ line ++ (10 ∷ rest))

-- the lines of the processes of a run, as they are where its events lead
pub record ReportsRun (k : KnownRun) (source text : List ℕ) : Type 0 where
  pub places : List (Option Position)
  pub are_places : ArePlaces k.module.now.value source places
  pub standings : List ProcessStatus
  pub are_there : (d : Configuration) → RunLeadsTo k d → AreStandings k d standings
  pub points : ReportsPoints (events_of k) standings
  pub lines : AreStatusLines k places standings text

-- the same of the run that a job means
pub record ReportsProcesses (j : meaning.Job) (by_seed : Option SeedChoice) (source text : List ℕ) : Type 0 where
  pub report : Report
  pub means : MeansFor (choosing_of by_seed j) j report
  pub run : KnownRun
  pub is_run : IsKnownRunOf j report run
  pub last : Configuration
  pub comes : RunLeadsTo run last
  pub reports : ReportsRun run source text

-- what is asked for of a module is this job, or refused for this
abbrev pub AsksOf : RunArgs → ReadModule → Result Job Code → Type 0
AsksOf a m = Asks m a.edition a.request

-- of the run that is asked for of a source its processes are reported; nothing is said where the source is refused, or
-- what is asked for of it, or where that is a shrinking
pub data ExplainsRun (a : RunArgs) (bytes : List ℕ) : List ℕ → Type 0 where
  source_refused : (code : Code) (offset : ℕ) → Reads bytes (refused code offset) → ExplainsRun a bytes []
  job_refused : (m : ReadModule) (code : Code) → IsModuleOf bytes m → AsksOf a m (Err code) → ExplainsRun a bytes []
  shrinks : (m : ReadModule) (j : Job) → IsModuleOf bytes m → AsksOf a m (Ok j) → (j.asked.runs ≡ zero → ⊥)
      → ExplainsRun a bytes []
  reported : (m : ReadModule) (j : Job) (text : List ℕ) → IsModuleOf bytes m → AsksOf a m (Ok j) → j.asked.runs ≡ zero
      → ReportsProcesses j.asked a.by_seed bytes text → ExplainsRun a bytes text

-- what is asked for of a source is one run of this job; or there is none, and nothing is said
abbrev pub FindsRun : RunArgs → List ℕ → Option Job → Type 0
FindsRun a bytes None = ExplainsRun a bytes []
FindsRun a bytes (Some j) = (j.asked.runs ≡ zero) × ((m : ReadModule) × IsModuleOf bytes m × AsksOf a m (Ok j))
