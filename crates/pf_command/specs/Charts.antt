-- What a source is answered with of which the chart of a run is asked for: the text that is written and the status.
use Rattle.std.specs.Prelude.{◌≡◌, ◌⊎◌, ℕ, List, [], Some}
use Rattle.pf_errors.specs.Codes.{code_text}
use Rattle.pf_errors.specs.declared.code.Code.TheVariants as code
use Rattle.pf_terms.specs.Atoms.{name_of}
use Rattle.pf_model.specs.Meaning as meaning
use Rattle.pf_model.specs.Meaning.{Means, Report}
use Rattle.pf_model.specs.Configuration.{Configuration}
use Rattle.pf_model.specs.Shrinking.{Found, IsResult, by_schedule, report, shrunk_to, nothing_fails}
use Rattle.pf_model.specs.TermText.{line}
use Rattle.pf_request.specs.Job.{Job}
use Rattle.pf_syntax.specs.Root.{root_of}
use Rattle.pf_cli_messages.specs.Explained.{IsKnownRunOf}
use Rattle.pf_process_status.specs.Known.{RunLeadsTo}
use Rattle.pf_process_status.specs.Lines.{AreNames}
use Rattle.pf_process_status.specs.declared.known.KnownRun.{KnownRun}
use Rattle.pf_chart.specs.Chart.{IsChart}
use Rattle.pf_chart.specs.declared.manner.Manner.{Manner}
use Rattle.pf_command.specs.Answers.{atom_names_of, run_status}
use Rattle.pf_command.specs.declared.answer.Output.{Output}

-- these are the names of the functions in whose calls the processes began in the run of a job that has this report
abbrev pub AreNamesIn : meaning.Job → Report → (names : List (List ℕ)) → Type 0
AreNamesIn j r names = (k : KnownRun) × IsKnownRunOf j r k × ((d : Configuration) × RunLeadsTo k d × AreNames k d names)

-- what is reported of a job from this root: a chart of its run, drawn in this manner and with the names of its
-- processes, with the status of the run, or of a shrinking that of the run which it found. If memory runs out within it
-- nothing is reported
pub data DrawsJob (root : List ℕ) (m : Manner) (j : Job) : List ℕ → ℕ → Type 0 where
  run_drawn : (r : Report) (names : List (List ℕ)) (text : List ℕ) → IsResult j.asked (report r)
      → AreNamesIn j.asked r names
      → IsChart (atom_names_of j) root names m r [] text
      → DrawsJob root m j text (run_status r.verdict)
  found_drawn : (f : Found) (r : Report) (names : List (List ℕ)) (text : List ℕ) → IsResult j.asked (shrunk_to f r)
      → AreNamesIn j.asked r names
      → IsChart (atom_names_of j) root names m r [] text
      → DrawsJob root m j text (run_status r.verdict)
  none_drawn : IsResult j.asked nothing_fails → DrawsJob root m j (line (code_text code.NothingFails)) 2

-- ---- the code's own answers

-- the root of a job is the function of this name
abbrev pub IsRootOf : Job → (name : List ℕ) → Type 0
IsRootOf j name = root_of name j.asked.code.atoms j.asked.code.functions ≡ Some j.asked.root

-- a report is of the run of a job, by its own choices or by a schedule
abbrev pub IsOfRun : meaning.Job → Report → Type 0
IsOfRun j r = Means j r ⊎ ((ns : List ℕ) × Means (by_schedule j ns) r)

-- the answer draws a run of a job
abbrev pub DrawsRun : meaning.Job → (root : List ℕ) → Manner → Report → Output → Type 0
DrawsRun j root m r a =
    (names : List (List ℕ)) × AreNamesIn j r names × IsChart (name_of j.code.atoms) root names m r [] a.text.items
    × (a.status ≡ run_status r.verdict)

-- the answer draws the run that a job means
abbrev pub DrawsMeaning : meaning.Job → (root : List ℕ) → Manner → Output → Type 0
DrawsMeaning j root m a = (r : Report) × Means j r × DrawsRun j root m r a
