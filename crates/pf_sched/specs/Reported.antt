-- Traces: what receives the events of a run as they happen.
use Rattle.std.specs.Prelude.{◌≡◌, ℕ, Bool, List, [], ◌∷◌, ◌++◌, map}
use Rattle.std.specs.Global.{Vec}
use Rattle.pf_terms.specs.Atoms.{name_of}
use Rattle.pf_model.specs.Labels.{Label}
use Rattle.pf_model.specs.Meaning as meaning
use Rattle.pf_model.specs.Meaning.{Job}
use Rattle.pf_model.specs.Properties.{Property, some_label}
use Rattle.pf_model.specs.Reports.{view_of_event}
use Rattle.pf_model.specs.declared.report.Actor.{Actor}
use Rattle.pf_model.specs.declared.report.Event.{Event}
use Rattle.pf_property.specs.Judging.{rules_out}
use Rattle.pf_property.specs.Views.{labels_in, property_of}
use Rattle.pf_trace.specs.Written.{AreWrittenSoFar, reported_so_far}
use Rattle.pf_sched.specs.declared.trace.Writer.{Writer}

abbrev pub event : (choice count : ℕ) → Actor → Label → meaning.Event
event i n x l = record { choice = i; count = n; actor = x; label = l }

-- a trace received one event more of a job's run, after all that it received before
abbrev pub Hears : {T : Type 0} (Reported : T → Job → List meaning.Event → Type 0) → T → meaning.Event → T → Type 0
Hears Reported t e u = (j : Job) (es : List meaning.Event) → Reported t j es → Reported u j (es ++ e ∷ [])

-- a list has all events
abbrev pub ListsEvents : Vec Event → Job → List meaning.Event → Type 0
ListsEvents es j reported = map view_of_event es.items ≡ reported

-- of a property, which is that of the job, it is known whether the label of an event rules it out
abbrev pub Decides : (of : Property) → Bool → Job → List meaning.Event → Type 0
Decides p b j reported = (p ≡ j.property) × (b ≡ some_label (rules_out j.property) (labels_in reported))

-- all events are written, a line each, by the names of the job's module, and it is known whether the label of one rules
-- the property out
abbrev pub WritesEvents : Writer → Job → List meaning.Event → Type 0
WritesEvents w j reported =
    Decides (property_of w.property.now) w.written.ruled_out j reported × (w.atoms.now ≡ j.code.atoms)
    × (reported_so_far w.written.lines ≡ reported) × AreWrittenSoFar (name_of w.atoms.now) w.written.lines
