use Rattle.std.proofs.Common.{sym, arith}
use Rattle.pf_sorted.proofs.Indices.{rises_insert}
use Rattle.pf_sorted.proofs.Sets.{with_there, with_gap}
use Rattle.pf_sorted.proofs.set.SortedSet.insert.Goals as goal

pub invariant_of-self-in-Err : goal.invariant_of-self-in-Err
invariant_of-self-in-Err c =
    let g = rw (← c.self.view_is) at c.in-Err.ensures.found in
    rw c.in_ok-insert-in-Err.ensures.items
    (rises_insert (λ x. x) 0 c.self.inside.items.items c.in-Err.at c.args.number (omega arith) c.self.invariant g.1)

pub returns-in-Ok-clause-inserted : goal.returns-in-Ok-clause-inserted
returns-in-Ok-clause-inserted c = sym (with_there c.args.number c.args.self.now c.in-Ok.field-0 c.in-Ok.ensures.found.1)

pub returns-in_ok-insert-in-Err-clause-inserted : goal.returns-in_ok-insert-in-Err-clause-inserted
returns-in_ok-insert-in-Err-clause-inserted c =
    let g = rw (← c.self.view_is) at c.in-Err.ensures.found in
    rw (c.in_ok-insert-in-Err.ensures.items, ← c.self.view_is)
    (with_gap c.args.number c.self.inside.items.items c.in-Err.at g.1)
