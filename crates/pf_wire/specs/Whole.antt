-- The whole text of an answer, of which the lines of a report's events are elsewhere.
use Rattle.std.specs.Prelude.{ℕ, List, [], ◌++◌, Option, Some, None, flat_map}
use Rattle.pf_terms.specs.Atoms.{name_of}
use Rattle.pf_model.specs.Meaning.{Report}
use Rattle.pf_model.specs.Shrinking.{Result, report, shrunk_to, nothing_fails}
use Rattle.pf_model.specs.TermText.{line}
use Rattle.pf_model.specs.Text.{event_text}
use Rattle.pf_trace.specs.Written.{report_end_text}
use Rattle.pf_wire.specs.declared.reported.WrittenAnswer.{WrittenAnswer}
use Rattle.pf_wire.specs.declared.reported.ReportedReport.{ReportedReport}

-- the lines of a report's events
abbrev pub events_text : (name : ℕ → List ℕ) → Report → List ℕ
events_text name r = flat_map (λ e. line (event_text name e)) r.events

-- the lines of a job's result that are those of the events of its report
abbrev pub result_events : List (List ℕ) → Result → List ℕ
result_events atoms (report r) = events_text (name_of atoms) r
result_events atoms (shrunk_to f r) = events_text (name_of atoms) r
result_events atoms nothing_fails = []

-- those that follow them
abbrev pub result_end : List (List ℕ) → Result → List ℕ
result_end atoms (report r) = report_end_text (name_of atoms) r
result_end atoms (shrunk_to f r) = report_end_text (name_of atoms) r
result_end atoms nothing_fails = []

-- the lines of a report in an answer
abbrev pub report_lines : ReportedReport → List ℕ
report_lines t = result_events t.finished.job.asked.code.atoms t.finished.result ++ t.end.items

-- what was put, and after it the lines of a report
abbrev pub with_report : List ℕ → Option ReportedReport → List ℕ
with_report text None = text
with_report text (Some r) = text ++ report_lines r

-- the whole answer
abbrev pub whole_text : WrittenAnswer → List ℕ
whole_text t = with_report t.text.items t.report
