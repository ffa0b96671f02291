use Rattle.std.proofs.Common.{rules, ◌≡◌, List, [], ◌∷◌, ◌++◌, Some, None, sym, subst}
use Rattle.std.specs.Prelude.{Ok}
use Rattle.pf_request.specs.Job.{Job}
use Rattle.pf_desks.specs.Desks.{Desks}
use Rattle.pf_farm_accounts.specs.declared.row.ClaimRow.{ClaimRow}
use Rattle.pf_farm_accounts.specs.Rows.{claim_of, row_of}
use Rattle.pf_book.specs.Answers.{SimulatesClaim, ClaimsAt}
use Rattle.pf_farm_state.specs.Clients.{ClientReplies}
use Rattle.pf_farm_state.specs.Hall.{IsSound}
use Rattle.pf_farm_state.proofs.Grown.{stays, true_still, claim_extends}
use Rattle.pf_farm_state.proofs.Sound.{sound_claimed}
use Rattle.pf_farm_state.proofs.hall.Hall.claim.Goals as goal

-- the same rows and desks
kept : (rows rows' : List (ClaimRow Job)) (log : List ClientReplies) (w w' : Desks) → rows' ≡ rows → w' ≡ w
    → IsSound rows log w → IsSound rows' log w'
kept rows rows' log w w' r d s = subst (IsSound rows' log) (sym d)
    (subst (λ (x : List (ClaimRow Job)). IsSound x log w) (sym r) s)

pub invariant_of-self : goal.invariant_of-self
invariant_of-self g c = (
  subst (λ (x : List (ClaimRow Job)). IsSound x c.self.inside.calls c.self.inside.book)
      (sym c.make_room.ensures.rows) c.self.invariant.0,
  c.self.invariant.1,
)

pub invariant_of-self-in_err-project : goal.invariant_of-self-in_err-project
invariant_of-self-in_err-project g c =
    let w = c.self.inside.book in
    let same = c.in_err-project.ensures.1 in (
      kept c.self.inside.ledger.0 c.make_room.new.self.0 c.self.inside.calls w c.claim.new.self
          c.make_room.ensures.rows same c.self.invariant.0,
      true_still w c.claim.new.self c.self.inside.stopped c.self.inside.looks (stays w c.claim.new.self same)
          c.self.invariant.1,
    )

pub invariant_of-self-in-None : goal.invariant_of-self-in-None
invariant_of-self-in-None g c =
    let w = c.self.inside.book in
    let none : SimulatesClaim w (Ok None) c.claim.new.self = search rules in (
      kept c.self.inside.ledger.0 c.make_room.new.self.0 c.self.inside.calls w c.claim.new.self
          c.make_room.ensures.rows none.1 c.self.invariant.0,
      true_still w c.claim.new.self c.self.inside.stopped c.self.inside.looks (stays w c.claim.new.self none.1)
          c.self.invariant.1,
    )

pub invariant_of-self-in-Some : goal.invariant_of-self-in-Some
invariant_of-self-in-Some g c =
    let rows = c.self.inside.ledger.0 in
    let k = c.in-Some in
    let does : ClaimsAt c.self.inside.book k.project k.ticket (Ok (Some k.job)) c.claim.new.self = search rules in
    let now : c.open-claim.new.self.0 ≡ rows ++ row_of (claim_of k.project k.ticket k.job.value) None ∷ [] =
    search rules in
    let w = c.self.inside.book in
    let w' = c.claim.new.self in (
      subst (λ (r : List (ClaimRow Job)). IsSound r c.self.inside.calls w') (sym now)
          (sound_claimed rows c.self.inside.calls w w' k.project k.ticket k.job does c.self.invariant.0),
      true_still w w' c.self.inside.stopped c.self.inside.looks
          (claim_extends w w' k.project k.ticket k.job does) c.self.invariant.1,
    )
