use Rattle.std.proofs.Common.{take}
use Rattle.pf_book.specs.Profile.{ForRight}
use Rattle.pf_farm_state.specs.Clients.{AreLegal}
use Rattle.pf_farm_state.proofs.closing.Closing.look_up.Given as goal

abbrev pub invariant-seats : goal.invariant-seats
invariant-seats l = ForRight (λ p. AreLegal p (take l.seat-index l.self.seats.items) l.self.book)
