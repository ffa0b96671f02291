-- Reports whose events are written: their lines stand for the events.
use Rattle.std.specs.Prelude.{◌≡◌, ◌++◌, ◌<◌, ℕ, Bool, List, Option, length, map, flat_map, codes}
use Rattle.std.specs.Fmt.{decimal}
use Rattle.std.specs.Io.KnownBytes.{Appends}
use Rattle.pf_errors.specs.declared.fault.OrNoMemory.{OrNoMemory}
use Rattle.pf_errors.specs.declared.fault.OrNoMemory.TheVariants.{NoMemory, Fault}
use Rattle.pf_streams.specs.Streams.{AppendsFront, CountsWrite}
use Rattle.pf_streams.specs.declared.stream.StreamFault.{StreamFault}
use Rattle.pf_model.specs.Meaning.{Event, Report}
use Rattle.pf_model.specs.Properties.{Outcome}
use Rattle.pf_model.specs.Reports.{view_of_event, view_of_outcome}
use Rattle.pf_model.specs.Text.{event_text, outcome_text, report_text, verdict_text}
use Rattle.pf_model.specs.TermText.{line}
use Rattle.pf_trace.specs.declared.event_lines.EventLines.{EventLines}
use Rattle.pf_trace.specs.declared.lines.LinesSoFar.{LinesSoFar}
use Rattle.pf_trace.specs.declared.lines.WrittenReport.{WrittenReport}
use Rattle.pf_trace.specs.declared.pieces.Pieces.{Pieces}

-- the lines of events, if atoms have these names
abbrev pub lines_text : (name : ℕ → List ℕ) → List Event → List ℕ
lines_text name es = flat_map (λ e. line (event_text name e)) es

-- the events whose lines these are
abbrev pub events_of : EventLines → List Event
events_of l = map (λ s. view_of_event s.value) l.reported.value.items

-- the events that were put so far
abbrev pub reported_so_far : LinesSoFar → List Event
reported_so_far l = map (λ s. view_of_event s.value) l.reported.items

-- the text is theirs, a line each, if atoms have these names
abbrev pub AreWritten : (name : ℕ → List ℕ) → EventLines → Type 0
AreWritten name l = l.text.items ≡ lines_text name (events_of l)

-- the text so far is that of the events so far
abbrev pub AreWrittenSoFar : (name : ℕ → List ℕ) → LinesSoFar → Type 0
AreWrittenSoFar name l = l.text.items ≡ lines_text name (reported_so_far l)

-- the report that is written
abbrev pub report_in : WrittenReport → Report
report_in w = record {
  events = events_of w.lines;
  outcome = view_of_outcome w.outcome;
  steps = w.steps;
  verdict = w.verdict;
}

-- the lines after those of the events: the outcome, the steps and the verdict
abbrev pub last_lines : (name : ℕ → List ℕ) → Outcome → (steps : ℕ) → Option Bool → List ℕ
last_lines name o steps v = line (outcome_text name o) ++ line (codes "steps " ++ decimal steps)
    ++ line (verdict_text v)

-- those of a report
abbrev pub report_end_text : (name : ℕ → List ℕ) → Report → List ℕ
report_end_text name r = last_lines name r.outcome r.steps r.verdict

-- ---- reports that are written while their runs go on

-- the events whose lines were written
abbrev pub gone_from : Pieces → List Event
gone_from p = map (λ s. view_of_event s.value) p.gone.items

-- all events that were put
abbrev pub all_reported : Pieces → List Event
all_reported p = gone_from p ++ reported_so_far p.lines

-- the bytes of the lines that wait
abbrev pub waiting_bytes : Pieces → List ℕ
waiting_bytes p = p.lines.text.items

-- fewer bytes wait than a piece has
abbrev pub IsShort : Pieces → Type 0
IsShort p = length (waiting_bytes p) < 65536

-- the lines that waited were written, or they wait on
abbrev pub GoesOut : (name : ℕ → List ℕ) → (old new : Pieces) → (written_old written_new : Option (List ℕ)) → Type 0
GoesOut name p q w0 w1 =
    (out : List Event) × (gone_from q ≡ gone_from p ++ out) × (all_reported q ≡ all_reported p)
    × AreWrittenSoFar name q.lines
    × Appends w0 w1 (lines_text name out)

-- these events were put, and the lines of those that don't wait were written
abbrev pub HasGoneOut : (name : ℕ → List ℕ) → List Event → Pieces → (written_old written_new : Option (List ℕ)) → Type 0
HasGoneOut name es p w0 w1 = (es ≡ all_reported p) × AreWrittenSoFar name p.lines
    × Appends w0 w1 (lines_text name (gone_from p))

-- a report was cut short: memory ran out, and the lines of its first events were written, each whole; or a write failed
-- and was counted, and a beginning of its text was written
abbrev pub StopsShort : OrNoMemory StreamFault → (name : ℕ → List ℕ) → Report
    → (written_old written_new : Option (List ℕ)) → (failed_old failed_new : ℕ) → Type 0
StopsShort NoMemory name r w0 w1 n0 n1 =
    (es : List Event) × (rest : List Event) × (r.events ≡ es ++ rest) × Appends w0 w1 (lines_text name es) × (n1 ≡ n0)
StopsShort (Fault fault) name r w0 w1 n0 n1 = AppendsFront w0 w1 (report_text name r) × CountsWrite fault n0 n1
