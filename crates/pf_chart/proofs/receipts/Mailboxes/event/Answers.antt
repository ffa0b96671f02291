use Rattle.std.proofs.Common.{◌≡◌, ◌+◌, Bor, map, rules, arith}
use Rattle.std.proofs.lemmas.Result.{on_ok_weaker}
use Rattle.pf_terms.specs.Term.{value_of}
use Rattle.pf_terms.specs.declared.term.Term.{Term}
use Rattle.pf_model.specs.Channels.{message}
use Rattle.pf_model.specs.Labels.{delivers, takes, took_effect}
use Rattle.pf_model.specs.Reports.{label_of, view_of_event}
use Rattle.pf_chart.proofs.Laying.{event_at}
use Rattle.pf_chart.proofs.Received.{one_read, what_is_there}
use Rattle.pf_chart.proofs.receipts.Mailboxes.event.Goals as goal

pub returns-in-Takes : goal.returns-in-Takes
returns-in-Takes c = λ h.
    let es = map view_of_event c.args.events.now in
    let event = c.in-Some.event.now in
    let row = c.args.row in
    let there = c.in-Some.ensures.lookup in
    let label : label_of event.label ≡ takes (value_of c.in-Takes.value) = search rules in
    one_read es c.args.columns.now row c.take.new.self
    (c.take.ensures c.args.columns.now (
      view_of_event event,
      event_at view_of_event c.args.events.now row event (omega arith) there.1,
      label,
      c.in-Some-mailbox_of.ensures,
    ) h)

pub returns-in_default-label : goal.returns-in_default-label
returns-in_default-label c =
    let es = map view_of_event c.args.events.now in
    let event = c.in-Some.event.now in
    let row = c.args.row in
    let there = c.in-Some.ensures.lookup in
    let brought = what_is_there
    (λ (v : Bor Term). label_of event.label ≡ delivers (message (value_of v.now)) took_effect)
    c.message_in.result c.if-is_some.ensures c.message_in.ensures in
    on_ok_weaker c.put.result
    (λ put h. put es c.args.columns.now (row + 1) (
      value_of brought.0.now,
      view_of_event event,
      (event_at view_of_event c.args.events.now row event (omega arith) there.1, brought.1),
      c.in-Some-mailbox_of.ensures,
      omega arith,
    ) (one_read es c.args.columns.now row c.args.self.now h))
    c.put.ensures
