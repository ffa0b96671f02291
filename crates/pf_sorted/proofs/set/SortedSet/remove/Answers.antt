use Rattle.std.proofs.Common.{sym}
use Rattle.pf_sorted.proofs.Indices.{rises_remove}
use Rattle.pf_sorted.proofs.Sets.{was_there, was_gap, without_there, without_gap}
use Rattle.pf_sorted.proofs.set.SortedSet.remove.Goals as goal

pub invariant_of-self : goal.invariant_of-self
invariant_of-self c = rw c.remove.ensures.items
    (rises_remove (λ x. x) 0 c.self.inside.items.items c.in-Ok.at c.self.invariant)

pub returns-in-Ok-clause-was : goal.returns-in-Ok-clause-was
returns-in-Ok-clause-was c = was_there c.args.number c.args.self.now c.in-Ok.at c.in-Ok.ensures.found.1

pub returns-in-Ok-clause-removed : goal.returns-in-Ok-clause-removed
returns-in-Ok-clause-removed c =
    let h = rw (← c.self.view_is) at c.in-Ok.ensures.found in
    rw (c.remove.ensures.items, ← c.self.view_is)
    (without_there c.args.number 0 c.self.inside.items.items c.in-Ok.at c.self.invariant h.1)

pub returns-in-Err-clause-was : goal.returns-in-Err-clause-was
returns-in-Err-clause-was c = was_gap c.args.number c.args.self.now c.in-Err.field-0 c.index_of.ensures.rises
    c.in-Err.ensures.found.1

pub returns-in-Err-clause-removed : goal.returns-in-Err-clause-removed
returns-in-Err-clause-removed c =
    sym (without_gap c.args.number 0 c.args.self.now c.in-Err.field-0 c.index_of.ensures.rises c.in-Err.ensures.found.1)
