use Rattle.std.proofs.Common.{◌≡◌, ◌∙◌, get_or, map, ap, refl, rules}
use Rattle.std.specs.List.{filter}
use Rattle.std.proofs.lemmas.List.{take_all}
use Rattle.pf_model.specs.Reports.{view_of_event}
use Rattle.pf_chart.specs.Chart.{has_row, rows_from}
use Rattle.pf_chart.specs.Rows.{star_labels_of}
use Rattle.pf_chart.specs.Stars.{star_at}
use Rattle.pf_chart.specs.declared.rows.EventRow.{EventRow}
use Rattle.pf_chart.proofs.Charts.{row_next}
use Rattle.pf_chart.proofs.Starred.{after_more, agree_on_more, starred}
use Rattle.pf_chart.proofs.rows.rows_of.Goals as goal

pub loop-index-preserved : goal.loop-index-preserved
loop-index-preserved c =
    let es = c.args.events.now in
    let i = c.loop-index.index in
    let e = c.index-events-index.result in
    let read : e ≡ get_or es i e = search rules in
    let so_far = c.loop-index.invariant in
    let next = row_next c.args.compact es i e c.loop-index.rows.items _ _ c.has_row-has_row.result
    c.loop-index-test.true read refl refl
    c.has_row-has_row.ensures c.in_ok-put_row.ensures so_far.events so_far.places in
    let star = starred es i e c.loop-index.runner c.has_star-has_star.result c.loop-index-test.true read so_far.runner
    c.has_star-has_star.ensures in
    record {
      events = next.0;
      places = next.1;
      runner = after_more es i e c.loop-index.runner _ c.loop-index-test.true read so_far.runner c.after-runner.ensures;
      stars = agree_on_more star_labels_of (λ (r : EventRow). star_at (map view_of_event es) r.index)
          c.loop-index.rows.items _ _ c.has_row-has_row.result c.in_ok-put_row.ensures so_far.stars star;
    }

pub returns : goal.returns
returns c =
    let es = c.args.events.now in
    let all = take_all c.loop-index.index es c.loop-index-test.false in
    record {
      events = c.loop-index.invariant.events ∙ ap (λ xs. filter (has_row c.args.compact) (map view_of_event xs)) all;
      places = c.loop-index.invariant.places ∙ ap (λ xs. rows_from c.args.compact 0 (map view_of_event xs)) all;
      stars = c.loop-index.invariant.stars;
    }
