use Rattle.std.proofs.Common.{◌≡◌, ℕ, zero, suc, Option, None, refl, sym, ap, ◌∙◌}
use Rattle.std.specs.Prelude.{option_map}
use Rattle.pf_desks.specs.Calls.{stage_of}
use Rattle.pf_desks.specs.Desk.{Desk, Trial, no_desk, held_at}
use Rattle.pf_desks.specs.declared.stage.TrialStage.{TrialStage}
use Rattle.pf_desks.specs.Desks.{desk_at}
use Rattle.pf_book.proofs.Placed.{desk_at_index, no_desk_at}
use Rattle.pf_book.proofs.book.Book.stage.Goals as goal

abbrev stage_at : (ticket : ℕ) → Desk → Option TrialStage
stage_at t d = option_map (λ (x : Trial). stage_of x.state) (held_at d.trials t)

no_stage : (ticket : ℕ) → stage_at ticket no_desk ≡ None
no_stage zero = refl
no_stage (suc t) = refl

pub returns-in-Some : goal.returns-in-Some
returns-in-Some c =
    let es = c.self.inside.desks.entries in
    let q = c.args.project in
    let at = desk_at_index q es es c.in-Some.index c.index.result.now (sym c.in-Some.ensures.index)
    c.index.ensures refl in
    let here : c.index.result.now ≡ desk_at q c.args.self.now = sym at.here ∙ ap (desk_at q) c.self.view_is in
    c.stage.ensures ∙ ap (stage_at c.args.ticket) here

pub returns-in-None : goal.returns-in-None
returns-in-None c =
    let es = c.self.inside.desks.entries in
    let q = c.args.project in
    let here : desk_at q c.args.self.now ≡ no_desk = ap (desk_at q) (sym c.self.view_is) ∙ no_desk_at q es es
    (sym c.in-None.ensures.index) refl in
    sym (ap (stage_at c.args.ticket) here ∙ no_stage c.args.ticket)
