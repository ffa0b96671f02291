-- What a source is answered with of which a run or a shrinking is asked for: the text that is written and the status.
use Rattle.std.specs.Prelude.{◌≡◌, ◌<◌, ℕ, zero, Bool, true, false, List, ◌++◌, Option, None, Some, Result, Ok, Err}
use Rattle.std.specs.Prelude.{codes}
use Rattle.pf_errors.specs.Codes.{code_text, refusal_text}
use Rattle.pf_errors.specs.declared.code.Code.{Code}
use Rattle.pf_errors.specs.declared.code.Code.TheVariants as code
use Rattle.pf_terms.specs.Atoms.{name_of}
use Rattle.pf_model.specs.Meaning as meaning
use Rattle.pf_model.specs.Meaning.{Event, Means, Report}
use Rattle.pf_model.specs.Shrinking as shrinking
use Rattle.pf_model.specs.Shrinking.{IsResult}
use Rattle.pf_model.specs.TermText.{line}
use Rattle.pf_model.specs.Text.{report_text, result_text}
use Rattle.pf_trace.specs.Written.{lines_text}
use Rattle.pf_check.specs.Module.{ReadModule}
use Rattle.pf_request.specs.Job.{Job}
use Rattle.pf_request.specs.View.{view_of_request}
use Rattle.pf_request.specs.declared.request.Request.{Request}
use Rattle.pf_check.specs.Reads.{Reads, refused}
use Rattle.pf_check.specs.Reading.{IsModuleOf}
use Rattle.pf_sched.specs.Waiting.{waiting_in}
use Rattle.pf_cli.specs.Args.{RunArgs, edition_number}
use Rattle.pf_cli_messages.specs.Explained.{AsksOf}
use Rattle.pf_cli.specs.declared.args.Edition.{Edition}
use Rattle.pf_command.specs.declared.answer.Output.{Output}

-- AnswersBy asks reports bytes text status: a source of these bytes is answered with this text and this status, if
-- `asks` says which job is asked for of a module or what it is refused for, and `reports` what is reported of a job
pub data AnswersBy (asks : ReadModule → Result Job Code → Type 0) (reports : Job → List ℕ → ℕ
    → Type 0) (bytes : List ℕ) : List ℕ → ℕ → Type 0 where
  -- the source is refused
  source_refused : (code : Code) (offset : ℕ) → Reads bytes (refused code offset)
      → AnswersBy asks reports bytes (line (refusal_text code offset)) 2
  -- what is asked for of the module is refused
  job_refused : (m : ReadModule) (code : Code) → IsModuleOf bytes m → asks m (Err code)
      → AnswersBy asks reports bytes (line (code_text code)) 2
  -- what is reported of the job
  reported : (m : ReadModule) (j : Job) (text : List ℕ) (status : ℕ) → IsModuleOf bytes m → asks m (Ok j)
      → reports j text status
      → AnswersBy asks reports bytes text status

-- ---- runs and shrinkings

-- the names of the atoms of a job's module
abbrev pub atom_names_of : Job → ℕ → List ℕ
atom_names_of j = name_of j.asked.code.atoms

-- the status of a run: 0 if its property holds, 1 if it fails, 2 if memory ran out and nothing is known
abbrev pub run_status : Option Bool → ℕ
run_status (Some true) = 0
run_status (Some false) = 1
run_status None = 2

-- a job's result in words, if `name` gives the names of atoms: that nothing fails is reported by its code
abbrev pub reported_text : (ℕ → List ℕ) → shrinking.Result → List ℕ
reported_text name (shrinking.report r) = result_text name (shrinking.report r)
reported_text name (shrinking.shrunk_to f r) = result_text name (shrinking.shrunk_to f r)
reported_text name shrinking.nothing_fails = line (code_text code.NothingFails)

-- and its status: that of the run; 1 if a schedule was shrunk, which fails; 2 if the given one doesn't
abbrev pub reported_status : shrinking.Result → ℕ
reported_status (shrinking.report r) = run_status r.verdict
reported_status (shrinking.shrunk_to f r) = 1
reported_status shrinking.nothing_fails = 2

-- these are the first events of what a job means
abbrev pub AreFirst : meaning.Job → List Event → Type 0
AreFirst j es = (r : Report) → Means j r → (rest : List Event) × (r.events ≡ es ++ rest)

-- what is reported of a run within which memory ran out: no event, no step and no verdict
abbrev pub no_memory_report : List ℕ
no_memory_report = codes "memory\nsteps 0\nno verdict\n"

abbrev pub IsNoMemory : List ℕ → ℕ → Type 0
IsNoMemory text status = (text ≡ no_memory_report) × (status ≡ 2)

-- the lines of events, and that memory ran out after them
abbrev pub cut_text : (ℕ → List ℕ) → List Event → List ℕ
cut_text name es = lines_text name es ++ no_memory_report

-- what is reported of a job: its result; or of a run that memory ran out within it, after the lines of its first events
-- that was written by then. Nothing is reported of a shrinking without memory
pub data ReportsJob (j : Job) : List ℕ → ℕ → Type 0 where
  result : (x : shrinking.Result) → IsResult j.asked x
      → ReportsJob j (reported_text (atom_names_of j) x) (reported_status x)
  out_of_memory : (es : List Event) → j.asked.runs ≡ zero → AreFirst j.asked es
      → ReportsJob j (cut_text (atom_names_of j) es) 2

-- a source of these bytes, of which a run or a shrinking is asked for, is answered with this text and this status
abbrev pub AnswersRun : RunArgs → (bytes text : List ℕ) → ℕ → Type 0
AnswersRun a = AnswersBy (AsksOf a) ReportsJob

-- ---- who still waits

-- Counts j old new text status: where this is reported of a job, new is how many processes still wait at the end of its
-- run though its root returned, if the report of that is printed. If it isn't, what was counted stays: of a shrinking,
-- and with the status of what is refused
pub data Counts (j : Job) (old : ℕ) : (new : ℕ) → List ℕ → ℕ → Type 0 where
  reported_result : (r : Report) → j.asked.runs ≡ zero → Means j.asked r
      → Counts j old (waiting_in r) (report_text (atom_names_of j) r) (run_status r.verdict)
  shrunk : (text : List ℕ) (status : ℕ) → 0 < j.asked.runs → Counts j old old text status
  unreported : (text : List ℕ) → Counts j old old text 2

-- the same of a source of these bytes, if `asks` says which job is asked for of a module
pub data CountsBy (asks : ReadModule → Result Job Code → Type 0) (old : ℕ) : (new : ℕ) → (bytes text : List ℕ)
    → ℕ → Type 0 where
  counted : (m : ReadModule) (j : Job) (new : ℕ) (bytes text : List ℕ) (status : ℕ) → IsModuleOf bytes m → asks m (Ok j)
      → Counts j old new text status
      → CountsBy asks old new bytes text status
  refused_before : (bytes text : List ℕ) → CountsBy asks old old bytes text 2

-- ---- the code's own requests and answers

-- a request by its own choices
abbrev pub run_args : Request → Edition → RunArgs
run_args r e = record { request = view_of_request r; edition = edition_number e; by_seed = None }

-- the answer is these words on a line of their own, with the status of what is refused
abbrev pub Refuses : Output → List ℕ → Type 0
Refuses a words = (a.text.items ≡ line words) × (a.status ≡ 2)

-- the answer reports a result, if atoms have these names
abbrev pub PrintsResult : (atoms : List (List ℕ)) → shrinking.Result → Output → Type 0
PrintsResult atoms x a = (a.text.items ≡ reported_text (name_of atoms) x) × (a.status ≡ reported_status x)
