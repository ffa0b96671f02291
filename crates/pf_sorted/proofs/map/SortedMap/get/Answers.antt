use Rattle.std.proofs.Common.{Some, sym, ap, ◌∙◌}
use Rattle.pf_sorted.proofs.Maps.{got_there, got_gap}
use Rattle.pf_sorted.proofs.map.SortedMap.get.Goals as goal

pub returns-in-Ok : goal.returns-in-Ok
returns-in-Ok g c =
    let h = rw (← c.self.view_is) at c.in-Ok.ensures.found in
    rw (← c.self.view_is)
    (ap (λ e. Some e.1) c.index.ensures ∙ sym
    (got_there c.args.key c.self.inside.entries.items c.in-Ok.at c.index.result.now h.1))

pub returns-in-Err : goal.returns-in-Err
returns-in-Err g c = sym (got_gap c.args.key 0 c.args.self.now c.in-Err.field-0 c.index_of.ensures.rises
    c.in-Err.ensures.found.1)
