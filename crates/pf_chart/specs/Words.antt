-- The words of a chart: with those of each document in SVG, all that a chart is made of, but for numbers and labels.
use Rattle.std.specs.Prelude.{ℕ, Bool, List, [], ◌∷◌, ◌++◌, codes}
use Rattle.pf_svg.specs.Document.{ClosesElement as ClosesIn, DrawsDocument as DrawsIn, IsDocument as IsDocumentIn}
use Rattle.pf_svg.specs.Document.{OpensElement as OpensIn}
use Rattle.pf_svg.specs.Words.{is_phrase as is_phrase_of}
use Rattle.pf_chart.specs.declared.marks.TheConstants.{LINKED, UNLINKED}
use Rattle.pf_chart.specs.declared.style.TheConstants.{DEFINITIONS, LEGEND, LEGEND_OF_CHOICES, LEGEND_OF_RECEIPTS}
use Rattle.pf_chart.specs.declared.style.TheConstants.{LEGEND_OF_SPAWNS, STYLE}

-- tags, or beginnings and ends of tags
abbrev pub markup : List (List ℕ)
markup =
    codes "<title>Run of " ∷ codes "</title>\n<desc>A message sequence chart of a run of " ∷ codes ".</desc>\n"
    ∷ codes "<rect class=\"sheet\" width=\"100%\" height=\"100%\"/>\n" ∷ codes "<text x=\"10\" y=\"-4\">" ∷ []

-- names of attributes that are numbers
abbrev pub attributes : List (List ℕ)
attributes = codes "data-pid" ∷ codes "data-event" ∷ codes "data-delivery" ∷ codes "data-receive" ∷ []

-- classes: of lines and texts, of processes, of events and of arrows
abbrev pub classes : List (List ℕ)
classes =
    codes "bands" ∷ codes "before" ∷ codes "life" ∷ codes "life waiting" ∷ codes "pid" ∷ codes "of" ∷ codes "foot"
    ∷ codes "outcome" ∷ codes "legend" ∷ codes "number" ∷ codes "process" ∷ codes "process deadlocked"
    ∷ codes "process failed" ∷ codes " failed"
    ∷ codes "event " ∷ codes "send" ∷ codes "spawn" ∷ codes "watched" ∷ codes "link" ∷ codes "unlink"
    ∷ codes "monitor" ∷ codes "demonitor" ∷ codes "exit" ∷ codes "flag" ∷ codes "name" ∷ codes "reference"
    ∷ codes "receive" ∷ codes "wait" ∷ codes "raise" ∷ codes "end" ∷ codes "cut" ∷ codes "delivery"
    ∷ codes "dropped" ∷ codes "ending" ∷ codes "arrow " ∷ codes "arrow spawn" ∷ codes "message" ∷ codes "down"
    ∷ codes " lost" ∷ codes " dropped" ∷ codes " chosen" ∷ codes "number chosen" ∷ codes "choice" ∷ codes "page"
    ∷ codes "" ∷ []

-- outlines of marks
abbrev pub outlines : List (List ℕ)
outlines =
    LINKED.now ∷ UNLINKED.now
    ∷ codes "M-2 0a2 2 0 1 0 4 0a2 2 0 1 0 -4 0z" ∷ codes "M-6 -6l12 12M-6 6l12 -12"
    ∷ codes "M-9 -2h18v4h-18zM-5 -10l10 8M-5 -2l10 -8" ∷ codes "M-3 0a3 3 0 1 0 6 0a3 3 0 1 0 -6 0z"
    ∷ codes "M-5 -5h10v10h-10zM-3 0h6M0 -3v6" ∷ codes "M-9 0q9 -11 18 0q-9 11 -18 0zM-3 0h6M0 -3v6"
    ∷ codes "M-7 0q7 -9 14 0q-7 9 -14 0zM-1 0h2" ∷ codes "M-7 0q7 -9 14 0q-7 9 -14 0zM-6 6l12 -12"
    ∷ codes "M0 -6l6 6l-6 6l-6 -6z" ∷ codes "M-4 7v-14l9 4l-9 4" ∷ codes "M-6 -4h8l4 4l-4 4h-8z"
    ∷ codes "M-2 -6v12M2 -6v12M-6 -2h12M-6 2h12" ∷ codes "M-4 -4h8v8h-8z" ∷ codes "M-4 -6h8l-8 12h8z"
    ∷ codes "M0 -6l6 11h-12z" ∷ codes "M-9 -2h18v4h-18z" ∷ codes "M-7 3l8 -6M-1 3l8 -6" ∷ []

-- what a chart says itself
abbrev pub phrases : List (List ℕ)
phrases =
    codes ", from top to bottom. Processes: " ∷ codes ". Events: " ∷ codes ". Outcome: " ∷ codes "by "
    ∷ codes " spawned by " ∷ codes " in event " ∷ codes " from " ∷ codes " to " ∷ codes "waits"
    ∷ codes ", never delivered" ∷ codes ", never received" ∷ codes ", dropped" ∷ codes ", delivered by a choice above 0"
    ∷ codes "Page " ∷ codes " of " ∷ codes ": rows "
    ∷ LEGEND.now ∷ LEGEND_OF_CHOICES.now ∷ LEGEND_OF_RECEIPTS.now ∷ LEGEND_OF_SPAWNS.now ∷ []

abbrev pub words : List (List ℕ)
words = markup ++ attributes ++ classes ++ outlines ++ phrases ++ STYLE.now ∷ DEFINITIONS.now ∷ []

-- a word that is text, or in an attribute's quotes
abbrev pub is_phrase : List ℕ → Bool
is_phrase w = is_phrase_of words w

-- after what was there comes what has these labels in their order, each escaped, and for the rest words of a chart and
-- numbers
abbrev pub DrawsInChart : (labels : List (List ℕ)) (before after : List ℕ) → Type 0
DrawsInChart labels before after = DrawsIn words labels before after

-- the same, and after it a group is open, or closed
abbrev pub OpensGroup : (labels : List (List ℕ)) (before after : List ℕ) → Type 0
OpensGroup labels before after = OpensIn words (codes "g") labels before after

abbrev pub ClosesGroup : (labels : List (List ℕ)) (before after : List ℕ) → Type 0
ClosesGroup labels before after = ClosesIn words (codes "g") labels before after

-- after what was there comes a whole document with these labels
abbrev pub IsDocument : (labels : List (List ℕ)) (before after : List ℕ) → Type 0
IsDocument labels before after = IsDocumentIn words labels before after
