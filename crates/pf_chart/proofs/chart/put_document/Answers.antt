use Rattle.std.proofs.Common.{◌≡◌, ◌∙◌, List, ap, length, map, refl, subst, sym, arith}
use Rattle.std.specs.List.{filter}
use Rattle.std.specs.List.Sorted.{IsNonDecreasingBy}
use Rattle.std.proofs.lemmas.List.{length-map}
use Rattle.std.proofs.lemmas.Result.{on_ok_weaker}
use Rattle.pf_terms.specs.Atoms.{name_of}
use Rattle.pf_model.specs.Reports.{view_of_event, view_of_report}
use Rattle.pf_chart.specs.Chart.{first_row, has_row, page_drawn, page_of, rows_from, shown_events, shown_stars}
use Rattle.pf_chart.specs.Origins.{process_of, texts}
use Rattle.pf_chart.specs.Pages.{page_in}
use Rattle.pf_chart.specs.Rows.{star_labels_of}
use Rattle.pf_chart.specs.Sheets.{pitch_of}
use Rattle.pf_chart.specs.Stars.{star_at}
use Rattle.pf_chart.specs.declared.rows.EventRow.{EventRow}
use Rattle.pf_chart.proofs.Charts.{chart_of, length_reported, of_stars, page_is, paged, reported, starred_page}
use Rattle.pf_chart.proofs.Lined.{drawn_grows, grown_on, grows_by, lines_of, lines_within}
use Rattle.pf_chart.proofs.Placed.{in_order}
use Rattle.pf_chart.proofs.Starred.{stars_of}
use Rattle.pf_svg.proofs.Drawn.{in_turn, plainly}
use Rattle.pf_chart.proofs.chart.put_document.Goals as goal

pub put-requires-clause-whole : goal.put-requires-clause-whole
put-requires-clause-whole c = λ os. refl

pub new-sheet-requires : goal.new-sheet-requires
new-sheet-requires c =
    subst (λ (rows : List EventRow). IsNonDecreasingBy (λ (r : EventRow). r.index) rows) (sym c.deref-3.ensures.value)
    (in_order c.args.manner.compact c.in_ok-all_rows.all_rows.items _ c.in_ok-all_rows.ensures.places)

pub returns : goal.returns
returns c =
    let manner = c.args.manner in
    let compact = manner.compact in
    let report = view_of_report c.args.report.now in
    let all = c.in_ok-all_rows.all_rows in
    let rows = c.page_of-rows.result.now in
    let layout = c.in_ok-layout.layout in
    let columns = layout.columns.items in
    let laid = c.in_ok-layout.ensures.laid in
    let sheet = c.new-sheet.result in
    let with_rows : map reported all.items ≡ filter (has_row compact) report.events =
    c.in_ok-all_rows.ensures.events ∙ ap (λ es. filter (has_row compact) (map view_of_event es))
    c.deref.ensures.value in
    let are : map reported rows ≡ shown_events manner report =
    ap (map reported) (c.page_of-rows.ensures ∙ ap (page_of manner.page) c.deref-2.ensures.value)
    ∙ paged reported manner.page all.items ∙ ap (page_of manner.page) with_rows in
    let processes : c.len-processes.result ≡ length (map process_of columns) =
    omega (arith, c.len-processes.ensures, layout.columns.ok.0, length-map columns process_of) in
    let places : map (λ (r : EventRow). r.index) sheet.rows.now ≡ rows_from compact 0 report.events =
    ap (map (λ (r : EventRow). r.index)) (c.new-sheet.ensures.rows ∙ c.deref-3.ensures.value)
    ∙ c.in_ok-all_rows.ensures.places
    ∙ ap (λ es. rows_from compact 0 (map view_of_event es)) c.deref.ensures.value in
    let size : c.len.result ≡ length all.items = omega (arith, c.len.ensures, all.ok.0) in
    let above : sheet.above ≡ first_row manner.page (length (filter (has_row compact) report.events)) =
    c.new-sheet.ensures.above ∙ c.first_row-above.ensures.first ∙ ap (first_row manner.page)
    (size ∙ sym (length_reported all.items) ∙ ap length with_rows) in
    let page = page_is sheet (pitch_of (length (map process_of columns))) (rows_from compact 0 report.events)
    (first_row manner.page (length (filter (has_row compact) report.events))) (length (shown_events manner report))
    (c.new-sheet.ensures.pitch ∙ ap pitch_of processes) places above
    (c.new-sheet.ensures.count ∙ sym (length_reported rows)
    ∙ ap length are) in
    let numbers : map (λ (r : EventRow). r.index) all.items ≡ rows_from compact 0 report.events =
    c.in_ok-all_rows.ensures.places
    ∙ ap (λ es. rows_from compact 0 (map view_of_event es)) c.deref.ensures.value in
    let shown = c.page_of-rows.ensures ∙ ap (page_of manner.page) c.deref-2.ensures.value in
    let starred : map star_labels_of all.items ≡ map (λ (r : EventRow). star_at report.events r.index) all.items =
    c.in_ok-all_rows.ensures.stars
    ∙ ap (λ es. map (λ (r : EventRow). star_at (map view_of_event es) r.index) all.items) c.deref.ensures.value in
    let stars : of_stars rows ≡ shown_stars manner report =
    ap of_stars shown
    ∙ stars_of report.events (page_of manner.page all.items) (page_of manner.page (rows_from compact 0 report.events))
    (starred_page report.events manner.page all.items starred)
    (paged (λ (r : EventRow). r.index) manner.page all.items ∙ ap (page_of manner.page) numbers) in
    let before = grown_on (grows_by _ _ _ c.in_ok-open.ensures)
    (grown_on (drawn_grows _ _ _ c.in_ok-put_words.ensures)
    (grown_on (drawn_grows _ _ _ c.in_ok-put.ensures)
    (grown_on (drawn_grows _ _ _ c.in_ok-put_ground.ensures) (drawn_grows _ _ _ c.in_ok-put_result.ensures)))) in
    let drawn = page_drawn manner report (length (map process_of columns)) in
    let lines = lines_of (page_in sheet) drawn (length columns) (length (map process_of columns))
    layout.traffic.arrows.items layout.traffic.arrows.items _ _
    page (sym (length-map columns process_of)) refl c.in_ok-put_layout.ensures.lines in
    on_ok_weaker c.close.result
    (λ h. chart_of (name_of c.args.atoms.now) c.args.names.root.now (texts c.args.names.known.now) manner
    c.args.report.now columns rows sheet.count
    c.deref-4.result.now c.deref-5.result.now c.deref-6.result.now c.width.result c.height.result
    (record { all = c.in_ok-layout.ensures.processes; by_pid = laid.by_pid })
    (record {
      signals = laid.signals;
      are = laid.are;
      arrows = layout.traffic.arrows.items;
      manner = laid.manner;
      lines = lines_within drawn (length (map process_of columns)) layout.traffic.arrows.items before lines
          (grown_on (drawn_grows _ _ _ c.in_ok-put_bottom.ensures) (grows_by _ _ _ h));
    })
    are stars c.new-sheet.ensures.count
    (c.deref-4.ensures.value ∙ c.in_ok-outcome.ensures) (c.deref-5.ensures.value ∙ c.in_ok-outcome.ensures)
    (c.deref-6.ensures.value ∙ c.in_ok-outcome.ensures)
    c.in_ok-open.ensures
    (in_turn (plainly (plainly c.in_ok-put_words.ensures c.in_ok-put.ensures) c.in_ok-put_ground.ensures)
    (in_turn c.in_ok-put_result.ensures (in_turn c.in_ok-put_layout.ensures.drawn c.in_ok-put_bottom.ensures))) h)
    c.close.ensures
