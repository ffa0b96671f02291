-- Runs whose reports are written while they go on.
use Rattle.std.specs.Prelude.{◌≡◌, ℕ, Bool, true, false, List, ◌∷◌, ◌++◌, [], Option}
use Rattle.std.specs.Io.KnownBytes.{Appends}
use Rattle.pf_errors.specs.declared.fault.OrNoMemory.{OrNoMemory}
use Rattle.pf_terms.specs.Atoms.{name_of}
use Rattle.pf_streams.specs.declared.stream.StreamFault.{StreamFault}
use Rattle.pf_model.specs.Meaning as meaning
use Rattle.pf_model.specs.Meaning.{Event, Report}
use Rattle.pf_model.specs.Text.{report_text}
use Rattle.pf_property.specs.Views.{property_of}
use Rattle.pf_request.specs.Job.{Job}
use Rattle.pf_trace.specs.Written.{AreWrittenSoFar, StopsShort, all_reported, gone_from, lines_text}
use Rattle.pf_sched.specs.declared.execution.Execution.{Execution}
use Rattle.pf_sched.specs.declared.printing.PrintedRun.{PrintedRun}
use Rattle.pf_sched.specs.declared.printing.Printer.{Printer}
use Rattle.pf_sched.specs.Choosing.{Choosing, MeansFor}
use Rattle.pf_sched.specs.Evidence.{Shows}
use Rattle.pf_sched.specs.Parts.{Executes}
use Rattle.pf_sched.specs.Slices.{IsRunOver}
use Rattle.pf_sched.specs.Waiting.{waiting_in}

-- the names of the atoms of a job's module
abbrev pub atom_names_of : Job → ℕ → List ℕ
atom_names_of j = name_of j.asked.code.atoms

-- all events were received, a line each by the names of the job's module, and what a verdict needs of them is known
abbrev pub PrintsRun : Printer → meaning.Job → List Event → Type 0
PrintsRun p j reported =
    Shows (property_of p.property.now) p.evidence j reported × (p.atoms.now ≡ j.code.atoms)
    × (all_reported p.pieces ≡ reported)
    × AreWrittenSoFar (name_of p.atoms.now) p.pieces.lines

-- a run so far where this chooses, with these events; the lines of those that don't wait were written
pub record IsPrinted (j : Job) (w : Choosing) (es : List Event) (x : Execution) (p : Printer)
    (written_old written_new : Option (List ℕ)) : Type 0 where
  pub run : Executes j w es x
  pub reported : PrintsRun p j.asked es
  pub out : Appends written_old written_new (lines_text (atom_names_of j) (gone_from p.pieces))

-- it went on by one event; or it is over
abbrev pub PrintsOn : Job → Choosing → List Event → Execution → Printer → (written_old written_new : Option (List ℕ))
    → (went : Bool) → Type 0
PrintsOn j w es x p w0 w1 true = (e : Event) × IsPrinted j w (es ++ e ∷ []) x p w0 w1
PrintsOn j w es x p w0 w1 false = IsPrinted j w es x p w0 w1 × IsRunOver j.asked.limit x

-- the report that a job means where this chooses was cut short
abbrev pub CutsShort : OrNoMemory StreamFault → Job → Choosing → (written_old written_new : Option (List ℕ))
    → (failed_old failed_new : ℕ) → Type 0
CutsShort e j w w0 w1 n0 n1 = (r : Report) → MeansFor w j.asked r → StopsShort e (atom_names_of j) r w0 w1 n0 n1

-- the report that a job means where this chooses was written, and it is known what its verdict is and how many
-- processes still wait though its root returned
abbrev pub HasPrinted : Job → Choosing → PrintedRun → (written_old written_new : Option (List ℕ)) → Type 0
HasPrinted j w p w0 w1 =
    (r : Report) × MeansFor w j.asked r × (r.verdict ≡ p.verdict) × (p.waiting ≡ waiting_in r)
    × Appends w0 w1 (report_text (atom_names_of j) r)

-- or it was cut short
abbrev pub HasStopped : OrNoMemory StreamFault → Job → Choosing → (written_old written_new : Option (List ℕ))
    → (failed_old failed_new : ℕ) → Type 0
HasStopped e j w w0 w1 n0 n1 = (r : Report) × MeansFor w j.asked r × StopsShort e (atom_names_of j) r w0 w1 n0 n1
