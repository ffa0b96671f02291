use Rattle.std.proofs.Common.{Some, sym, ap, ◌∙◌}
use Rattle.pf_sorted.proofs.Indices.{rises_remove}
use Rattle.pf_sorted.proofs.Maps.{got_there, got_gap, without_there, without_gap}
use Rattle.pf_sorted.proofs.map.SortedMap.remove.Goals as goal

pub invariant_of-self : goal.invariant_of-self
invariant_of-self g c = rw c.remove.ensures.items
    (rises_remove (λ e. e.0) 0 c.self.inside.entries.items c.in-Ok.at c.self.invariant)

pub returns-in-Ok-clause-was : goal.returns-in-Ok-clause-was
returns-in-Ok-clause-was g c =
    let h = rw (← c.self.view_is) at c.in-Ok.ensures.found in
    rw (← c.self.view_is)
    (ap (λ e. Some e.1) c.remove.ensures.value
    ∙ sym (got_there c.args.key c.self.inside.entries.items c.in-Ok.at c.remove.result h.1))

pub returns-in-Ok-clause-removed : goal.returns-in-Ok-clause-removed
returns-in-Ok-clause-removed g c =
    let h = rw (← c.self.view_is) at c.in-Ok.ensures.found in
    rw (c.remove.ensures.items, ← c.self.view_is)
    (without_there c.args.key 0 c.self.inside.entries.items c.in-Ok.at c.self.invariant h.1)

pub returns-in-Err-clause-was : goal.returns-in-Err-clause-was
returns-in-Err-clause-was g c =
    sym (got_gap c.args.key 0 c.args.self.now c.in-Err.field-0 c.index_of.ensures.rises c.in-Err.ensures.found.1)

pub returns-in-Err-clause-removed : goal.returns-in-Err-clause-removed
returns-in-Err-clause-removed g c =
    sym (without_gap c.args.key 0 c.args.self.now c.in-Err.field-0 c.index_of.ensures.rises c.in-Err.ensures.found.1)
