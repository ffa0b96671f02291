-- What a chart shows, as its labels.
use Rattle.std.specs.Prelude.{ℕ, zero, suc, ◌-◌, ◌*◌, ◌/◌, Bool, true, false, not, ◌&&◌, min, if◌then◌else◌}
use Rattle.std.specs.Prelude.{List, [], ◌∷◌, ◌++◌, Option, Some, None, length, take, drop, flat_map, slice_index_or}
use Rattle.std.specs.Prelude.{codes}
use Rattle.std.specs.List.{filter}
use Rattle.std.specs.List.Sorted.{IsNonDecreasingBy, IsPermutation}
use Rattle.pf_model.specs.Channels.{message}
use Rattle.pf_model.specs.Labels.{Label, delivers, took_effect, waits}
use Rattle.pf_model.specs.Meaning.{Event, Report}
use Rattle.pf_model.specs.TermText.{value_text}
use Rattle.pf_model.specs.Text.{label_text, outcome_text}
use Rattle.pf_chart.specs.Lines.{HaveLines}
use Rattle.pf_chart.specs.Processes.{Process, processes_of}
use Rattle.pf_chart.specs.Sheets.{Page, head_rows, pitch_of}
use Rattle.pf_chart.specs.Signals.{AreArrows, IsManner}
use Rattle.pf_chart.specs.Stars.{star_at}
use Rattle.pf_chart.specs.declared.arrows.Arrow.{Arrow}
use Rattle.pf_chart.specs.declared.manner.Manner.{Manner}
use Rattle.pf_chart.specs.Words.{IsDocument}

-- ---- which events have a row

-- a wait, and the delivery of a message into a mailbox
abbrev pub is_quiet : Label → Bool
is_quiet waits = true
is_quiet (delivers (message m) took_effect) = true
is_quiet _ = false

-- in a compact chart what is quiet has no row
abbrev pub has_row : (compact : Bool) → Event → Bool
has_row compact e = not (compact && is_quiet e.label)

-- a page has 500 rows; pages are counted from 1, and where there are fewer it is the last
abbrev pub first_row : (page rows : ℕ) → ℕ
first_row page rows = 500 * min (page - 1) ((rows - 1) / 500)

abbrev pub page_of : {X : Type 0} → (page : ℕ) → List X → List X
page_of page rows = take 500 (drop (first_row page (length rows)) rows)

-- the places of those that have one, among events of which the first has this number
abbrev pub rows_from : (compact : Bool) → (event : ℕ) → List Event → List ℕ
rows_from compact n [] = []
rows_from compact n (e ∷ es) = if has_row compact e then n ∷ rows_from compact (suc n) es
    else rows_from compact (suc n) es

-- the numbers of those of a run that have a row on the page
abbrev pub shown_numbers : Manner → Report → List ℕ
shown_numbers m r = page_of m.page (rows_from m.compact 0 r.events)

-- the events that have a row on the page
abbrev pub shown_events : Manner → Report → List Event
shown_events m r = page_of m.page (filter (has_row m.compact) r.events)

-- ---- labels

-- whole in a tooltip, and shown
abbrev pub twice : List ℕ → List (List ℕ)
twice label = label ∷ label ∷ []

abbrev pub copies : ℕ → List (List ℕ) → List (List ℕ)
copies zero labels = []
copies (suc n) labels = copies n labels ++ labels

-- the name of the function in whose call a process began, by pid; empty where it isn't known
abbrev pub name_of_start : (names : List (List ℕ)) (pid : ℕ) → List ℕ
name_of_start names pid = slice_index_or names pid []

-- a process shows this name, where it is known; else the root function, unless it says who spawned it
abbrev pub name_or_root : (root name : List ℕ) → Option (ℕ × ℕ) → List (List ℕ)
name_or_root root [] None = root ∷ []
name_or_root root [] (Some spawned) = []
name_or_root root (b ∷ bs) spawned = (b ∷ bs) ∷ []

-- the label of a process: the name of its own function
abbrev pub origin_labels : (root : List ℕ) (names : List (List ℕ)) → Process → List (List ℕ)
origin_labels root names p = name_or_root root (name_of_start names p.pid) p.spawned

-- the tooltip and the heads of a process
abbrev pub process_labels : (rows : ℕ) (root : List ℕ) (names : List (List ℕ)) → Process → List (List ℕ)
process_labels rows root names p = origin_labels root names p ++ copies (head_rows rows) (origin_labels root names p)

-- which message an event delivers, if it delivers one
abbrev pub message_text : (name : ℕ → List ℕ) → Label → List ℕ
message_text name (delivers (message m) x) = codes ": " ++ value_text name m
message_text name l = []

-- an event shows its label, and a delivery its message
abbrev pub shown_text : (name : ℕ → List ℕ) → Label → List ℕ
shown_text name l = label_text name l ++ message_text name l

abbrev pub event_labels : (name : ℕ → List ℕ) → Event → List (List ℕ)
event_labels name e = twice (shown_text name e.label)

-- all labels in their order: the root function in the title; this and the outcome in the words on the document; the
-- outcome; those of each process; the stars; the label of each event; and the outcome
abbrev pub chart_labels : (name : ℕ → List ℕ) (root : List ℕ) (names : List (List ℕ)) (outcome : List ℕ)
    (stars : List (List ℕ)) (rows : List Event) (processes : List Process) → List (List ℕ)
chart_labels name root names outcome stars rows processes =
    (root ∷ root ∷ outcome ∷ []) ++ (twice outcome
    ++ (flat_map (process_labels (length rows) root names) processes
    ++ (stars ++ (flat_map (event_labels name) rows ++ twice outcome))))

-- the stars of the events that have a row on the page
abbrev pub shown_stars : Manner → Report → List (List ℕ)
shown_stars m r = flat_map (star_at r.events) (shown_numbers m r)

-- ---- the whole

-- the columns are the processes of the run, by pid
pub record AreColumns (r : Report) (processes : List Process) : Type 0 where
  pub all : IsPermutation (processes_of r.events) processes
  pub by_pid : IsNonDecreasingBy (λ p. p.pid) processes

-- the page that is drawn in this manner, with so many columns
abbrev pub page_drawn : Manner → Report → (columns : ℕ) → Page
page_drawn m r n = record {
  pitch = pitch_of n;
  events = rows_from m.compact 0 r.events;
  above = first_row m.page (length (filter (has_row m.compact) r.events));
  count = length (shown_events m r);
}

-- the signals of the run have their arrows, and these their lines on the page
pub record ShowsSignals (m : Manner) (r : Report) (processes : List Process) (before after : List ℕ) : Type 0 where
  pub signals : List Arrow
  pub are : AreArrows r.events processes (length r.events) signals
  pub arrows : List Arrow
  pub manner : IsManner r.events m.compact signals arrows
  pub lines : HaveLines (page_drawn m r (length processes)) (length processes) arrows before after

-- after what was there comes a chart of this report, drawn in this manner, of the processes of its run, whose functions
-- have these names
pub data IsChart (name : ℕ → List ℕ) (root : List ℕ) (names : List (List ℕ)) (m : Manner) (r : Report)
    (before after : List ℕ) : Type 0 where
  chart : (processes : List Process) → AreColumns r processes
      → IsDocument (chart_labels name root names (outcome_text name r.outcome) (shown_stars m r) (shown_events m r)
      processes) before after
      → ShowsSignals m r processes before after
      → IsChart name root names m r before after
