use Rattle.std.proofs.Common.{sym}
use Rattle.pf_ties.proofs.Naming.{inverse_without, inverse_same}
use Rattle.pf_ties.proofs.names.RegisteredNames.remove.Goals as goal

pub invariant_of-self : goal.invariant_of-self
invariant_of-self c =
    rw c.remove.ensures.removed
    (inverse_same c.self.inside.by_name c.self.inside.by_process c.from.result 0 c.self.invariant
    (sym c.in-None.ensures.was))

pub invariant_of-self-in-Some : goal.invariant_of-self-in-Some
invariant_of-self-in-Some c =
    rw (c.remove.ensures.removed, c.remove-in-Some.ensures.removed, c.from-in-Some.ensures)
    (inverse_without c.self.inside.by_name c.self.inside.by_process c.from.result c.in-Some.pid c.self.invariant
    (sym c.in-Some.ensures.was))
