use Rattle.std.proofs.Common.{◌≡◌, refl, sym, ap, ◌∙◌}
use Rattle.pf_desks.specs.Calls.{calls_in}
use Rattle.pf_desks.specs.Desk.{Desk, no_desk}
use Rattle.pf_desks.specs.Desks.{desk_at}
use Rattle.pf_book.proofs.Placed.{desk_at_index, no_desk_at}
use Rattle.pf_book.proofs.book.Book.call_count.Goals as goal

pub returns-in-Some : goal.returns-in-Some
returns-in-Some c =
    let es = c.self.inside.desks.entries in
    let q = c.args.project in
    let at = desk_at_index q es es c.in-Some.index c.index.result.now (sym c.in-Some.ensures.index)
    c.index.ensures refl in
    let here : c.index.result.now ≡ desk_at q c.args.self.now = sym at.here ∙ ap (desk_at q) c.self.view_is in
    c.call_count.ensures ∙ ap (λ (k : Desk). calls_in k.history) here

pub returns-in-None : goal.returns-in-None
returns-in-None c =
    let es = c.self.inside.desks.entries in
    let q = c.args.project in
    let here : desk_at q c.args.self.now ≡ no_desk = ap (desk_at q) (sym c.self.view_is) ∙ no_desk_at q es es
    (sym c.in-None.ensures.index) refl in
    ap (λ (k : Desk). calls_in k.history) (sym here)
