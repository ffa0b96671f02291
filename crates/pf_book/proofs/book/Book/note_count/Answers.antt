use Rattle.std.proofs.Common.{◌≡◌, nat_eq, length, Some, None, sym, ap, ◌∙◌, subst}
use Rattle.std.specs.Map.{lookup}
use Rattle.pf_desks.specs.Desk.{Desk, no_desk}
use Rattle.pf_desks.specs.History.{IsLegalDesk}
use Rattle.pf_desks.specs.Desks.{desk_at}
use Rattle.pf_book.proofs.Placed.{at_some, at_none, empty_legal}
use Rattle.pf_book.proofs.book.Book.note_count.Goals as goal

pub returns-in-Some-clause-count : goal.returns-in-Some-clause-count
returns-in-Some-clause-count c =
    let es = c.self.inside.desks.entries in
    let q = c.args.project in
    let d = c.in-Some.desk.now in
    let found : lookup (nat_eq q) es ≡ Some d = sym c.in-Some.ensures.value in
    let here : desk_at q c.args.self.now ≡ d = ap (desk_at q) (sym c.self.view_is) ∙ at_some q es d found in
    c.note_count.ensures.count ∙ ap (λ (k : Desk). length k.history) (sym here)

pub returns-in-Some-clause-legal : goal.returns-in-Some-clause-legal
returns-in-Some-clause-legal c =
    let es = c.self.inside.desks.entries in
    let q = c.args.project in
    let d = c.in-Some.desk.now in
    let found : lookup (nat_eq q) es ≡ Some d = sym c.in-Some.ensures.value in
    let here : desk_at q c.args.self.now ≡ d = ap (desk_at q) (sym c.self.view_is) ∙ at_some q es d found in
    λ p right. subst (IsLegalDesk p) (sym here) (c.note_count.ensures.legal p right)

pub returns-in-None-clause-count : goal.returns-in-None-clause-count
returns-in-None-clause-count c =
    let es = c.self.inside.desks.entries in
    let q = c.args.project in
    let absent : lookup (nat_eq q) es ≡ None = sym c.in-None.ensures.value in
    let here : desk_at q c.args.self.now ≡ no_desk = ap (desk_at q) (sym c.self.view_is) ∙ at_none q es absent in
    ap (λ (k : Desk). length k.history) (sym here)

pub returns-in-None-clause-legal : goal.returns-in-None-clause-legal
returns-in-None-clause-legal c =
    let es = c.self.inside.desks.entries in
    let q = c.args.project in
    let absent : lookup (nat_eq q) es ≡ None = sym c.in-None.ensures.value in
    let here : desk_at q c.args.self.now ≡ no_desk = ap (desk_at q) (sym c.self.view_is) ∙ at_none q es absent in
    empty_legal q c.args.self.now here
