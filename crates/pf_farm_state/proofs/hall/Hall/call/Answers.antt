use Rattle.std.proofs.Common.{rules, ◌≡◌, ◌+◌, ◌<◌, ℕ, List, [], ◌∷◌, ◌++◌, length, sym, ap, ◌∙◌, subst}
use Rattle.std.specs.Prelude.{Ok}
use Rattle.pf_request.specs.View.{view_of_call}
use Rattle.pf_quota.specs.declared.refusals.TheConstants.{MOST_CALLS}
use Rattle.pf_desks.specs.Calls.{calls_in}
use Rattle.pf_desks.specs.Desks.{Desks, desk_at}
use Rattle.pf_farm_accounts.specs.Receipts.{receipt_of, of_project}
use Rattle.pf_book.specs.Answers.{SimulatesCall}
use Rattle.pf_farm_state.specs.Clients.{ClientReplies}
use Rattle.pf_farm_state.specs.Hall.{IsSound}
use Rattle.pf_farm_state.proofs.Full.{HasMost, most_and_more}
use Rattle.pf_farm_state.proofs.Grown.{stays, true_still, call_extends}
use Rattle.pf_farm_state.proofs.Noted.{room_below}
use Rattle.pf_farm_state.proofs.Sound.{is_next, sound_called}
use Rattle.pf_farm_state.proofs.hall.Hall.call.Goals as goal

pub log_call-requires-clause-number : goal.log_call-requires-clause-number
log_call-requires-clause-number g c =
    let h = c.self.inside in
    let q = c.project-project.result in
    let less : calls_in (desk_at q h.book).history < MOST_CALLS = search rules in
    let does : SimulatesCall h.book q (view_of_call c.args.call) (Ok c.in_ok-reply.reply) c.call-2.new.self =
    c.in_ok-reply.ensures.answer in
    let own : q ≡ c.make_room.new.self.project = search rules in
    c.call_count-number.ensures
    ∙ is_next h.ledger.0 h.calls h.book c.call-2.new.self q c.args.call c.in_ok-reply.reply does c.self.invariant.0
    (room_below (desk_at q h.book) less)
    ∙ ap (λ n. length (of_project n h.calls) + 1) own

-- memory ran out, and the desks are as they were
pub invariant_of-self : goal.invariant_of-self
invariant_of-self g c =
    let h = c.self.inside in
    let w' = c.call-2.new.self in
    let same : w' ≡ h.book = c.in_err-reply.ensures.answer.1 in (
      subst (λ (w : Desks). IsSound h.ledger.0 h.calls w) (sym same) c.self.invariant.0,
      true_still h.book w' h.stopped h.looks (stays h.book w' same) c.self.invariant.1,
    )

pub invariant_of-self-2 : goal.invariant_of-self-2
invariant_of-self-2 g c =
    let h = c.self.inside in
    let q = c.project-project.result in
    let n = c.call_count-number.result in
    let reply = c.in_ok-reply.reply in
    let less : calls_in (desk_at q h.book).history < MOST_CALLS = search rules in
    let room = room_below (desk_at q h.book) less in
    let does : SimulatesCall h.book q (view_of_call c.args.call) (Ok reply) c.call-2.new.self =
    c.in_ok-reply.ensures.answer in
    let number : n ≡ length (of_project q h.calls) + 1 = c.call_count-number.ensures ∙ is_next h.ledger.0 h.calls h.book
    c.call-2.new.self q c.args.call reply does c.self.invariant.0 room in
    let now : c.log_call.new.self ≡ h.calls ++ receipt_of q n c.args.call reply ∷ [] = search rules in (
      subst (λ (l : List ClientReplies). IsSound h.ledger.0 l c.call-2.new.self) (sym now)
          (sound_called h.ledger.0 h.calls h.book c.call-2.new.self q c.args.call reply does c.self.invariant.0 n room
          number c.call-2.ensures.tickets),
      true_still h.book c.call-2.new.self h.stopped h.looks (call_extends h.book c.call-2.new.self q
          (view_of_call c.args.call) (Ok reply) does) c.self.invariant.1,
    )

pub invariant_of-seat-2 : goal.invariant_of-seat-2
invariant_of-seat-2 g c = λ full.
    let log = c.self.inside.calls in
    let s = c.seat.inside.seat in
    let m = c.make_room.new.self in
    let r : ClientReplies = receipt_of m.project c.call_count-number.result c.of-asked.result.value
    c.in_ok-reply.reply in
    let P : ℕ × List ClientReplies → Type 0 = λ x. HasMost x.0 x.1 in
    let before : HasMost m.project m.seen = subst P
    (λ i. (sym c.make_room.ensures.project i, sym c.make_room.ensures.seen i)) (c.seat.invariant full) in
    let after : HasMost m.project (log ++ r ∷ []) =
    most_and_more m.project log m.seen (r ∷ []) c.log_call.ensures.seen before in
    let seen : c.log_call.new.seat.seen ≡ log ++ r ∷ [] = ap (λ x. x.seen) c.log_call.ensures.seat
    ∙ c.log_call.ensures.log in
    subst P (λ i. (sym (ap (λ x. x.project) c.log_call.ensures.seat) i, sym seen i)) after
