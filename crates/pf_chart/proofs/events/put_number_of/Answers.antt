use Rattle.std.proofs.Common.{◌≡◌, ◌∙◌, Bool, List, [], ◌∷◌, ap, rules, sym, ℕ}
use Rattle.std.proofs.lemmas.Result.{on_ok_weaker}
use Rattle.pf_model.specs.Reports.{view_of_event}
use Rattle.pf_chart.specs.Stars.{choice_text, star_labels}
use Rattle.pf_svg.proofs.Drawn.{in_turn, plainly, renamed}
use Rattle.pf_chart.proofs.events.put_number_of.Goals as goal

pub returns-then-row : goal.returns-then-row
returns-then-row c =
    let event = view_of_event c.args.row.now.event.now in
    let text : c.deref.result.now ≡ choice_text event = search rules in
    on_ok_weaker c.end_line.result
    (λ h. renamed (ap (λ (t : List ℕ). t ∷ []) text ∙ sym (ap (λ (b : Bool). star_labels b event) c.if-row.true))
    (plainly (plainly c.in_ok-text.ensures c.in_ok-text-2.ensures) h)) c.end_line.ensures

pub returns : goal.returns
returns c =
    let event = view_of_event c.args.row.now.event.now in
    on_ok_weaker c.end_line-2.result
    (λ h. renamed (sym (ap (λ (b : Bool). star_labels b event) c.if-row.false)) (in_turn c.in_ok-text-3.ensures h))
    c.end_line-2.ensures
