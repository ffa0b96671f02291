use Rattle.std.proofs.Common.{refl}
use Rattle.pf_sorted.proofs.Maps.{set_entry, rises_value, value_at}
use Rattle.pf_sorted.proofs.map.SortedMap.value_mut.Goals as goal

pub invariant_of-self-lent : goal.invariant_of-self-lent
invariant_of-self-lent g c w =
    rw (set_entry c.self.inside.entries.items c.args.at w c.index_mut-entry.result.now c.index_mut-entry.ensures.value)
    (rises_value 0 c.self.inside.entries.items c.args.at w c.self.invariant)

pub returns : goal.returns
returns g c =
    let l = rw (← c.self.view_is) at c.requires in
    let read = c.index_mut-entry.ensures.value in
    let xs = c.self.inside.entries.items in (
      (refl, λ w. rw (← c.self.view_is) (set_entry xs c.args.at w c.index_mut-entry.result.now read)),
      record {
        writes_back = tt;
        value = rw (← c.self.view_is)
            (value_at xs c.args.at c.index_mut-entry.result.now l read);
      },
    )
