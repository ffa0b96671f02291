use Rattle.std.proofs.Common.{◌≡◌, ◌<◌, ◌≤◌, length, get_or, take, sym, ap, ◌∙◌, subst, arith}
use Rattle.std.proofs.lemmas.List.{take_all, take_more}
use Rattle.std.proofs.lemmas.List.Elements.{All-push}
use Rattle.pf_desks.specs.History.{IsLegalDesk}
use Rattle.pf_desks.specs.Desks.{desk_at}
use Rattle.pf_farm_state.specs.declared.client.ClosedSeat.{ClosedSeat}
use Rattle.pf_farm_state.specs.Clients.{AreLegal}
use Rattle.pf_farm_state.proofs.closing.Closing.look_up.Goals as goal

pub seats-preserved : goal.seats-preserved
seats-preserved c = λ p right.
    let l = c.seats in
    let ss = c.args.self.now.seats.items in
    let w = c.args.self.now.book in
    let s : ClosedSeat = c.seat-item.result in
    let all : c.deref-seat-items.result.now ≡ ss = c.deref-seat-items.ensures.value in
    let is : s ≡ get_or ss l.seat-index s = c.seat-item.is ∙ ap (λ xs. get_or xs l.seat-index s) all in
    let within : l.seat-index < length ss = omega (arith, ap (λ xs. length xs) all, c.seats-test.true) in
    let one : IsLegalDesk p (desk_at (get_or ss l.seat-index s).reported.project w) =
    subst (λ (x : ClosedSeat). IsLegalDesk p (desk_at x.reported.project w)) is (c.note_count.ensures.legal p right) in
    subst (λ t. AreLegal p t w) (sym (take_more ss l.seat-index s within))
    (All-push (λ (x : ClosedSeat). IsLegalDesk p (desk_at x.reported.project w)) (take l.seat-index ss)
    (get_or ss l.seat-index s) (l.invariant p right) one)

pub returns : goal.returns
returns c = λ p right.
    let l = c.seats in
    let ss = c.args.self.now.seats.items in
    let over : length ss ≤ l.seat-index = omega (
      arith,
      ap (λ xs. length xs) c.deref-seat-items.ensures.value,
      c.seats-test.false,
    ) in
    subst (λ t. AreLegal p t c.args.self.now.book) (take_all l.seat-index ss over) (l.invariant p right)
