use Rattle.std.proofs.Common.{List, sym, subst}
use Rattle.pf_farm_state.specs.declared.look.TrialLook.{TrialLook}
use Rattle.pf_farm_state.specs.Clients.{ClientReplies}
use Rattle.pf_farm_state.specs.Hall.{IsSound}
use Rattle.pf_farm_state.proofs.Grown.{AreTrue}
use Rattle.pf_farm_state.proofs.hall.Hall.seat.Goals as goal

pub invariant_of-self : goal.invariant_of-self
invariant_of-self g c =
    let h = c.self.inside in (
      subst (λ (l : List ClientReplies). IsSound h.ledger.0 l h.book) (sym c.seat-receipts.ensures.same)
          c.self.invariant.0,
      subst (λ (ls : List TrialLook). AreTrue h.book h.stopped ls) (sym c.seat.ensures.same) c.self.invariant.1,
    )
