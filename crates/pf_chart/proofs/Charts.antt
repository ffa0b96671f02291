-- The parts of a chart in turn are a chart.
use Rattle.std.proofs.Common.{◌≡◌, ◌<◌, ◌≤◌, ◌+◌, ◌-◌, ℕ, arith, inl, inr, min, length-drop, Bool, true, false}
use Rattle.std.proofs.Common.{List, [], ◌∷◌, ◌++◌, refl, sym, ◌∙◌, ap, append_assoc, length, get_or, take, drop, map}
use Rattle.std.proofs.Common.{add-one}
use Rattle.std.specs.Prelude.{flat_map, if◌then◌else◌}
use Rattle.std.specs.List.{filter}
use Rattle.std.proofs.lemmas.List.{drop-map, length-map, map-append, take-map, take_all, take_more}
use Rattle.std.proofs.lemmas.List.Elements.{filter-append}
use Rattle.std.proofs.lemmas.List.Folds.{flat_map-map}
use Rattle.std.proofs.lemmas.Bool.{cases_lt}
use Rattle.std.proofs.lemmas.Grind.{common_steps}
use Rattle.pf_model.specs.declared.report.Event.{Event}
use Rattle.pf_model.specs.declared.report.Report.{Report}
use Rattle.pf_model.specs.Meaning as meaning
use Rattle.pf_model.specs.Reports.{view_of_event, view_of_outcome, view_of_report}
use Rattle.pf_model.specs.Text.{outcome_text}
use Rattle.pf_chart.specs.declared.columns.Column.{Column}
use Rattle.pf_chart.specs.declared.manner.Manner.{Manner}
use Rattle.pf_chart.specs.declared.rows.EventRow.{EventRow}
use Rattle.pf_chart.specs.Chart.{AreColumns, IsChart, ShowsSignals, chart, copies}
use Rattle.pf_chart.specs.Chart.{event_labels, first_row, has_row, page_of, process_labels, rows_from, shown_events}
use Rattle.pf_chart.specs.Chart.{shown_stars, twice}
use Rattle.pf_chart.specs.Origins.{process_of}
use Rattle.pf_chart.specs.Pages.{page_in}
use Rattle.pf_chart.specs.Rows.{star_labels_of}
use Rattle.pf_chart.specs.Sheets.{Page}
use Rattle.pf_chart.specs.Stars.{star_at}
use Rattle.pf_chart.specs.declared.sheet.Sheet.{Sheet}
use Rattle.pf_chart.specs.Words.{DrawsInChart}
use Rattle.pf_svg.specs.Document.{document_end, start_text}
use Rattle.pf_svg.proofs.Drawn.{elsewhere, renamed, whole}
use Rattle.pf_chart.proofs.Lined.{holds_elsewhere}
use Rattle.pf_chart.proofs.Placed.{place_next}

abbrev pub reported : EventRow → meaning.Event
reported row = view_of_event row.event.now

abbrev pub of_columns : (rows : ℕ) → List ℕ → List (List ℕ) → List Column → List (List ℕ)
of_columns n root names cs = flat_map (λ c. process_labels n root names (process_of c)) cs

abbrev pub of_stars : List EventRow → List (List ℕ)
of_stars rows = flat_map star_labels_of rows

abbrev pub of_rows : (ℕ → List ℕ) → List EventRow → List (List ℕ)
of_rows name rows = flat_map (λ row. event_labels name (view_of_event row.event.now)) rows

-- ---- rows

pub copies_more : (n : ℕ) (labels : List (List ℕ)) → copies n labels ++ labels ≡ copies (n + 1) labels
copies_more n labels = ap (λ (k : ℕ). copies k labels) (sym (add-one n))

-- at most 500 rows from a first on
pub cut : (rows : List EventRow) (first end : ℕ) → first ≤ length rows → end ≡ min (length rows) (first + 500)
    → take (end - first) (drop first rows) ≡ take 500 (drop first rows)
cut rows first end within is = elim (cases_lt (length rows) (first + 500)) [
  | inl h ↦ take_all (end - first) (drop first rows) (omega (arith, is, length-drop first rows))
      ∙ sym (take_all 500 (drop first rows) (omega (arith, length-drop first rows)))
  | inr h ↦ (let all : end - first ≡ 500 = omega (arith, is) in ap (λ (n : ℕ). take n (drop first rows)) all)
]

-- one event more
pub rows_more : (compact : Bool) (es : List Event) (i : ℕ) (e : Event) → i < length es → e ≡ get_or es i e
    → filter (has_row compact) (map view_of_event (take i es)) ++ filter (has_row compact) (view_of_event e ∷ [])
    ≡ filter (has_row compact) (map view_of_event (take (i + 1) es))
rows_more compact es i e lt is =
    let all : take (i + 1) es ≡ take i es ++ e ∷ [] =
    take_more es i e lt ∙ ap (λ (x : Event). take i es ++ x ∷ []) (sym is) in
    let events : map view_of_event (take (i + 1) es) ≡ map view_of_event (take i es) ++ view_of_event e ∷ [] =
    ap (map view_of_event) all ∙ grind (arith, common_steps) in
    sym (ap (filter (has_row compact)) events ∙ filter-append (has_row compact) (map view_of_event (take i es))
    (view_of_event e ∷ []))

pub row_kept : (compact : Bool) (e : meaning.Event) → has_row compact e ≡ true
    → e ∷ [] ≡ filter (has_row compact) (e ∷ [])
row_kept compact e is = rw is refl

pub row_left : (compact : Bool) (e : meaning.Event) → has_row compact e ≡ false → [] ≡ filter (has_row compact) (e ∷ [])
row_left compact e is = rw is refl

-- the row of one event more, if it has one
pub row_next : (compact : Bool) (es : List Event) (i : ℕ) (e : Event) (xs ys : List EventRow) (row : EventRow)
    (has : Bool) → i < length es → e ≡ get_or es i e
    → row.index ≡ i → row.event.now ≡ e → has ≡ has_row compact (view_of_event e)
    → ys ≡ xs ++ (if has then row ∷ [] else [])
    → map reported xs ≡ filter (has_row compact) (map view_of_event (take i es))
    → map (λ r. r.index) xs ≡ rows_from compact 0 (map view_of_event (take i es))
    → (map reported ys ≡ filter (has_row compact) (map view_of_event (take (i + 1) es)))
    × (map (λ r. r.index) ys ≡ rows_from compact 0 (map view_of_event (take (i + 1) es)))
row_next compact es i e xs ys row true low read index event is put events places =
    let kept : has_row compact (view_of_event e) ≡ true = sym is in
    let next = place_next view_of_event compact es i e low
    ∙ ap (λ (b : Bool). rows_from compact 0 (map view_of_event (take i es)) ++ (if b then i ∷ [] else []))
    (ap (λ (x : Event). has_row compact (view_of_event x)) (sym read) ∙ kept) in (
      ap (map reported) put ∙ map-append reported xs (row ∷ []) ∙ ap (λ t. t ++ reported row ∷ []) events
          ∙ ap (λ (x : Event). filter (has_row compact) (map view_of_event (take i es)) ++ view_of_event x ∷ []) event
          ∙ ap (λ t. filter (has_row compact) (map view_of_event (take i es)) ++ t)
          (row_kept compact (view_of_event e) kept) ∙ rows_more compact es i e low read,
      ap (map (λ r. r.index)) put ∙ map-append (λ r. r.index) xs (row ∷ []) ∙ ap (λ t. t ++ row.index ∷ []) places
          ∙ ap (λ (n : ℕ). rows_from compact 0 (map view_of_event (take i es)) ++ n ∷ []) index ∙ sym next,
    )
row_next compact es i e xs ys row false low read index event is put events places =
    let left : has_row compact (view_of_event e) ≡ false = sym is in
    let next = place_next view_of_event compact es i e low
    ∙ ap (λ (b : Bool). rows_from compact 0 (map view_of_event (take i es)) ++ (if b then i ∷ [] else []))
    (ap (λ (x : Event). has_row compact (view_of_event x)) (sym read) ∙ left) in (
      ap (map reported) put ∙ map-append reported xs [] ∙ ap (λ t. t ++ []) events
          ∙ ap (λ t. filter (has_row compact) (map view_of_event (take i es)) ++ t)
          (row_left compact (view_of_event e) left) ∙ rows_more compact es i e low read,
      ap (map (λ r. r.index)) put ∙ map-append (λ r. r.index) xs [] ∙ ap (λ t. t ++ []) places ∙ sym next,
    )

pub length_reported : (rows : List EventRow) → length (map reported rows) ≡ length rows
length_reported rows = length-map rows reported

-- what is read off a page of the rows is a page of what is read off them
pub paged : {X : Type 0} (f : EventRow → X) (page : ℕ) (rows : List EventRow)
    → map f (page_of page rows) ≡ page_of page (map f rows)
paged f page rows =
    let first = first_row page (length rows) in
    sym (take-map f 500 (drop first rows)) ∙ ap (take 500) (sym (drop-map f first rows))
    ∙ ap (λ (n : ℕ). take 500 (drop (first_row page n) (map f rows))) (sym (length-map rows f))

-- a page of rows has the stars of its events
pub starred_page : (es : List meaning.Event) (page : ℕ) (rows : List EventRow)
    → map star_labels_of rows ≡ map (λ (r : EventRow). star_at es r.index) rows
    → map star_labels_of (page_of page rows) ≡ map (λ (r : EventRow). star_at es r.index) (page_of page rows)
starred_page es page rows stars =
    paged star_labels_of page rows ∙ ap (page_of page) stars
    ∙ sym (paged (λ (r : EventRow). star_at es r.index) page rows)

-- ---- pages

abbrev page_by : (pitch : ℕ) (events : List ℕ) (above count : ℕ) → Page
page_by pitch events above count = record { pitch = pitch; events = events; above = above; count = count }

-- a sheet's page, by its parts
pub page_is : (s : Sheet) (pitch : ℕ) (events : List ℕ) (above count : ℕ) → s.pitch ≡ pitch
    → map (λ r. r.index) s.rows.now ≡ events → s.above ≡ above → s.count ≡ count
    → page_in s ≡ page_by pitch events above count
page_is s pitch events above count a b c d =
    ap (λ (n : ℕ). page_by n (map (λ r. r.index) s.rows.now) s.above s.count) a
    ∙ ap (λ (ns : List ℕ). page_by pitch ns s.above s.count) b
    ∙ ap (λ (n : ℕ). page_by pitch events n s.count) c ∙ ap (λ (n : ℕ). page_by pitch events above n) d

-- ---- the whole

-- the document is a chart of the report
pub chart_of : (name : ℕ → List ℕ) (root : List ℕ) (names : List (List ℕ)) (m : Manner) (r : Report) (cs : List Column)
    (rows : List EventRow) (n : ℕ) (o p q : List ℕ) (width height : ℕ) {x y z w : List ℕ}
    → AreColumns (view_of_report r) (map process_of cs) → ShowsSignals m (view_of_report r) (map process_of cs) x w
    → map reported rows ≡ shown_events m (view_of_report r) → of_stars rows ≡ shown_stars m (view_of_report r)
    → n ≡ length rows
    → o ≡ outcome_text name (view_of_outcome r.outcome) → p ≡ outcome_text name (view_of_outcome r.outcome)
    → q ≡ outcome_text name (view_of_outcome r.outcome)
    → y ≡ x ++ start_text width height
    → DrawsInChart ((root ∷ root ∷ o ∷ []) ++ (twice p
    ++ ((of_columns n root names cs ++ (of_stars rows ++ of_rows name rows)) ++ twice q))) y z
    → w ≡ z ++ document_end
    → IsChart name root names m (view_of_report r) x w
chart_of name root names m r cs rows n o p q width height all shows are stars count e e' e'' begins d ends =
    let outcome = outcome_text name (view_of_outcome r.outcome) in
    let events = shown_events m (view_of_report r) in
    let processes = map process_of cs in
    let number : n ≡ length events = count ∙ sym (length_reported rows) ∙ ap length are in
    let labels_of_processes : of_columns n root names cs
    ≡ flat_map (process_labels (length events) root names) processes =
    sym (flat_map-map (process_labels n root names) process_of cs)
    ∙ ap (λ (k : ℕ). flat_map (process_labels k root names) processes) number in
    let labels : of_rows name rows ≡ flat_map (event_labels name) events =
    sym (flat_map-map (event_labels name) reported rows) ∙ ap (flat_map (event_labels name)) are in
    let parted : (of_columns n root names cs ++ (of_stars rows ++ of_rows name rows)) ++ twice q
    ≡ of_columns n root names cs ++ (of_stars rows ++ (of_rows name rows ++ twice q)) =
    append_assoc (of_columns n root names cs) (of_stars rows ++ of_rows name rows) (twice q)
    ∙ ap (λ (t : List (List ℕ)). of_columns n root names cs ++ t)
    (append_assoc (of_stars rows) (of_rows name rows) (twice q)) in
    let rest : (of_columns n root names cs ++ (of_stars rows ++ of_rows name rows)) ++ twice q
    ≡ flat_map (process_labels (length events) root names) processes
    ++ (shown_stars m (view_of_report r) ++ (flat_map (event_labels name) events ++ twice outcome)) =
    parted
    ∙ ap (λ (t : List (List ℕ)). t ++ (of_stars rows ++ (of_rows name rows ++ twice q))) labels_of_processes
    ∙ ap (λ (t : List (List ℕ)). flat_map (process_labels (length events) root names) processes
    ++ (t ++ (of_rows name rows ++ twice q))) stars
    ∙ ap (λ (t : List (List ℕ)). flat_map (process_labels (length events) root names) processes
    ++ (shown_stars m (view_of_report r) ++ (t ++ twice q))) labels
    ∙ ap (λ (t : List ℕ). flat_map (process_labels (length events) root names) processes
    ++ (shown_stars m (view_of_report r) ++ (flat_map (event_labels name) events ++ twice t))) e'' in
    chart processes all (whole width height begins
    (renamed (ap (λ (t : List ℕ). (root ∷ root ∷ t ∷ []) ++ (twice p
    ++ ((of_columns n root names cs ++ (of_stars rows ++ of_rows name rows)) ++ twice q))) e
    ∙ ap (λ (t : List ℕ). (root ∷ root ∷ outcome ∷ []) ++ (twice t
    ++ ((of_columns n root names cs ++ (of_stars rows ++ of_rows name rows)) ++ twice q))) e'
    ∙ ap (λ (t : List (List ℕ)). (root ∷ root ∷ outcome ∷ []) ++ (twice outcome ++ t)) rest) d) ends) shows

-- a chart that was made by itself, after what is elsewhere
pub moved : {name : ℕ → List ℕ} {root : List ℕ} {names : List (List ℕ)} {m : Manner} {r : _} {x y : List ℕ}
    (before after : List ℕ) → x ≡ [] → after ≡ before ++ y
    → IsChart name root names m r x y → IsChart name root names m r before after
moved before after none e (chart processes all d shows) =
    chart processes all (elsewhere before after none e d) (record {
      signals = shows.signals;
      are = shows.are;
      arrows = shows.arrows;
      manner = shows.manner;
      lines = λ i a at from to here. holds_elsewhere before after none e (shows.lines i a at from to here);
    })
