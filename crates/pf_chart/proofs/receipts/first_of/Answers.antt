use Rattle.std.proofs.Common.{◌<◌, get_or, length, sym, ◌∙◌, arith}
use Rattle.std.proofs.lemmas.Option.{slice_get-get_or}
use Rattle.pf_terms.specs.Term.{value_of}
use Rattle.pf_model.specs.Reports.{view_of_event}
use Rattle.pf_chart.proofs.Laying.{event_at}
use Rattle.pf_chart.proofs.receipts.first_of.Goals as goal

pub returns-then-equal : goal.returns-then-equal
returns-then-equal c =
    let ds = c.args.deliveries.now in
    let es = c.args.events.now in
    let place = c.loop-place.place in
    let d = get_or ds place 0 in
    let event = c.in_ok-event.event.now in
    let low : place < length ds = omega arith in
    let there = c.in_ok-event.ensures.lookup in (
      d,
      slice_get-get_or ds place 0 low,
      (
        value_of c.in_ok-message_in.field-0.now,
        view_of_event event,
        (event_at view_of_event es d event (omega arith) there.1, c.in_ok-message_in.ensures),
        sym c.equal.ensures ∙ c.if-equal.true,
      ),
    )
