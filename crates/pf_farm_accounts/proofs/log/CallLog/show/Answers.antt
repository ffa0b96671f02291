use Rattle.std.proofs.Common.{sym, subst}
use Rattle.pf_farm_accounts.specs.Receipts.{IsSeat}
use Rattle.pf_farm_accounts.proofs.Seats.{shown}
use Rattle.pf_farm_accounts.proofs.log.CallLog.show.Goals as goal

pub invariant_of-seat : goal.invariant_of-seat
invariant_of-seat g c =
    let s = c.seat.inside in
    let log = c.self.inside.register.0 in (
      c.seat.invariant.0,
      c.seat.invariant.1,
      subst (λ t. IsSeat t.0 t.1 s.project s.receipts.items) (sym c.show.ensures.token)
          (shown s.token.0 s.token.1 log s.project s.receipts.items c.show.ensures.seen c.seat.invariant.2),
      c.seat.invariant.3,
    )
