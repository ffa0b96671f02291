use Rattle.std.proofs.Common.{◌≡◌, ◌||◌, ◌++◌, ◌∷◌, [], sym, ap, ◌∙◌, subst}
use Rattle.pf_model.specs.Properties.{some_label}
use Rattle.pf_model.specs.Reports.{view_of_event}
use Rattle.pf_property.specs.Judging.{rules_out}
use Rattle.pf_property.specs.Views.{labels_in, property_of}
use Rattle.pf_property.proofs.Shown.{one_event_more}
use Rattle.pf_sched.specs.Reported.{WritesEvents}
use Rattle.pf_sched.specs.declared.trace.WrittenEvents.{WrittenEvents}
use Rattle.pf_sched.proofs.trace.Writer.add.Goals as goal

pub returns : goal.returns
returns c j es reported =
    let old = c.args.self.now in
    let e = view_of_event c.args.reported.now in
    let by_now = old.written.ruled_out || rules_out (property_of old.property.now) e.label in
    let ruled_out : by_now ≡ some_label (rules_out j.property) (labels_in (es ++ e ∷ [])) =
    ap (λ p. old.written.ruled_out || rules_out p e.label) reported.0.0
    ∙ ap (λ b. b || rules_out j.property e.label) reported.0.1
    ∙ sym (one_event_more (rules_out j.property) es e) in
    let written : WrittenEvents = record { lines = c.add.new.self; ruled_out = by_now } in
    let all : WritesEvents (record old { written = written }) j (es ++ e ∷ []) = (
      (reported.0.0, ruled_out),
      reported.1,
      c.in_ok-add.ensures.event ∙ ap (λ xs. xs ++ e ∷ []) reported.2,
      c.in_ok-add.ensures.line reported.3,
    ) in
    subst (λ w. WritesEvents (record old { written = w }) j (es ++ e ∷ [])) (sym c.see.ensures) all
