use Rattle.std.proofs.Common.{sym, ap}
use Rattle.pf_sorted.proofs.Indices.{rises_remove, there_from}
use Rattle.pf_sorted.proofs.Maps.{without_there}
use Rattle.pf_sorted.proofs.map.SortedMap.remove_at.Goals as goal

pub invariant_of-self : goal.invariant_of-self
invariant_of-self g c = rw c.remove.ensures.items
    (rises_remove (λ e. e.0) 0 c.self.inside.entries.items c.args.at c.self.invariant)

pub returns-clause-removed : goal.returns-clause-removed
returns-clause-removed g c =
    let l = rw (← c.self.view_is) at c.requires in
    let xs = c.self.inside.entries.items in
    rw (c.remove.ensures.items, ← c.self.view_is)
    (without_there c.remove.result.0 0 xs c.args.at c.self.invariant
    (there_from (λ e. e.0) 0 c.remove.result.0 xs c.args.at c.remove.result c.self.invariant l
    (ap (λ e. e.0) (sym c.remove.ensures.value))))
