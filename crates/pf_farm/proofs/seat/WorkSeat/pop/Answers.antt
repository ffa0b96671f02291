use Rattle.std.proofs.Common.{◌≡◌, ℕ, ap, subst}
use Rattle.pf_farm_accounts.specs.DequeViews.{OwnerView, TakesFirst}
use Rattle.pf_farm.specs.Seats.{WorkSeatView}
use Rattle.pf_farm.proofs.seat.WorkSeat.pop.Goals as goal

pub returns-in-Some-clause-first : goal.returns-in-Some-clause-first
returns-in-Some-clause-first g c =
    let own : c.self.inside.own ≡ c.args.self.now.own = ap (λ (s : WorkSeatView). s.own) c.self.view_is in
    subst (λ (o : OwnerView ℕ). TakesFirst o c.in-Some.run') own c.in-Some.ensures.some.1
