use Rattle.std.proofs.Common.{rules, ◌≡◌, ◌≤◌, ℕ, Bool, true, List, sym, subst, arith, inl, inr}
use Rattle.std.specs.Prelude.{◌⊎◌}
use Rattle.pf_quota.specs.declared.refusals.TheConstants.{MOST_CALLS}
use Rattle.pf_request.specs.View.{view_of_call}
use Rattle.pf_desks.specs.Calls.{calls_in}
use Rattle.pf_desks.specs.Desks.{Desks, desk_at}
use Rattle.pf_farm_accounts.specs.Places.{StartsWith}
use Rattle.pf_request.specs.Job.{Job}
use Rattle.pf_farm_accounts.specs.declared.row.ClaimRow.{ClaimRow}
use Rattle.pf_farm_state.specs.Clients.{ClientReplies, ClientView}
use Rattle.pf_farm_state.specs.Hall.{Hall, IsSound}
use Rattle.pf_farm_state.proofs.Full.{HasMost, still_most}
use Rattle.pf_farm_state.proofs.Grown.{true_still, call_extends}
use Rattle.pf_farm_state.proofs.Sound.{as_many, sound_past, refused_past}
use Rattle.pf_farm_state.proofs.hall.Hall.call_full.Goals as goal

-- a seat is full, or the log of its project is
abbrev IsPast : ClientView → Hall → Type 0
IsPast s h = (s.is_full ≡ true) ⊎ (MOST_CALLS ≤ calls_in (desk_at s.project h.desks).history)

-- then the log has as many calls as it may hold
most_logged : (rows : List (ClaimRow Job)) (log seen : List ClientReplies) (w : Desks) (q : ℕ) (b : Bool)
    → IsSound rows log w → StartsWith log seen → (b ≡ true → HasMost q seen)
    → (b ≡ true) ⊎ (MOST_CALLS ≤ calls_in (desk_at q w).history) → HasMost q log
most_logged rows log seen w q b s starts known (inl full) = still_most q log seen starts (known full)
most_logged rows log seen w q b s starts known (inr full) = omega (arith, as_many rows log w s q, full)

pub invariant_of-seat : goal.invariant_of-seat
invariant_of-seat g c =
    let h = c.self.inside in
    let s = c.seat.inside.seat in
    let Q : ClientView × Hall → Type 0 = λ x. IsPast x.0 x.1 in
    let past = subst Q (λ i. (sym c.seat.view_is i, sym c.self.view_is i)) c.requires in
    let most : HasMost s.project h.calls = most_logged h.ledger.0 h.calls s.seen h.book s.project c.seat.inside.is_full
    c.self.invariant.0 c.show.ensures.before c.seat.invariant past in
    let P : ℕ × List ClientReplies → Type 0 = λ x. HasMost x.0 x.1 in
    λ _. subst P (λ i. (sym c.show.ensures.project i, sym c.show.ensures.seen i)) most

pub invariant_of-self : goal.invariant_of-self
invariant_of-self g c =
    let h = c.self.inside in
    let s = c.seat.inside.seat in
    let q = c.project-project.result in
    let Q : ClientView × Hall → Type 0 = λ x. IsPast x.0 x.1 in
    let past = subst Q (λ i. (sym c.seat.view_is i, sym c.self.view_is i)) c.requires in
    let most : HasMost s.project h.calls = most_logged h.ledger.0 h.calls s.seen h.book s.project c.seat.inside.is_full
    c.self.invariant.0 c.show.ensures.before c.seat.invariant past in
    let own : s.project ≡ q = search rules in
    let full : MOST_CALLS ≤ calls_in (desk_at q h.book).history =
    subst (λ n. MOST_CALLS ≤ calls_in (desk_at n h.book).history) own
    (omega (arith, as_many h.ledger.0 h.calls h.book c.self.invariant.0 s.project, most)) in (
      subst (λ (l : List ClientReplies). IsSound h.ledger.0 l c.call.new.self) (sym c.show.ensures.same)
          (sound_past h.ledger.0 h.calls h.book c.call.new.self q c.args.call c.self.invariant.0 full c.call.result
          c.call.ensures.answer c.call.ensures.tickets),
      true_still h.book c.call.new.self h.stopped h.looks (call_extends h.book c.call.new.self q
          (view_of_call c.args.call) c.call.result c.call.ensures.answer) c.self.invariant.1,
    )

pub returns-clause-reply : goal.returns-clause-reply
returns-clause-reply g c =
    let h = c.self.inside in
    let s = c.seat.inside.seat in
    let q = c.project-project.result in
    let Q : ClientView × Hall → Type 0 = λ x. IsPast x.0 x.1 in
    let past = subst Q (λ i. (sym c.seat.view_is i, sym c.self.view_is i)) c.requires in
    let most : HasMost s.project h.calls = most_logged h.ledger.0 h.calls s.seen h.book s.project c.seat.inside.is_full
    c.self.invariant.0 c.show.ensures.before c.seat.invariant past in
    let own : s.project ≡ q = search rules in
    let full : MOST_CALLS ≤ calls_in (desk_at q h.book).history =
    subst (λ n. MOST_CALLS ≤ calls_in (desk_at n h.book).history) own
    (omega (arith, as_many h.ledger.0 h.calls h.book c.self.invariant.0 s.project, most)) in
    refused_past h.ledger.0 h.calls h.book c.call.new.self q c.args.call c.self.invariant.0 full c.call.result
    c.call.ensures.answer
