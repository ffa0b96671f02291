use Rattle.std.proofs.Common.{arith}
use Rattle.pf_sorted.proofs.Indices.{rises_insert, gap_within}
use Rattle.pf_sorted.proofs.Maps.{put_gap}
use Rattle.pf_sorted.proofs.map.SortedMap.insert_at.Goals as goal

pub insert-requires : goal.insert-requires
insert-requires g c =
    let h = rw (← c.self.view_is) at c.requires in
    omega (arith, gap_within (λ e. e.0) c.args.key c.self.inside.entries.items c.args.at h)

pub invariant_of-self-2 : goal.invariant_of-self-2
invariant_of-self-2 g c =
    let h = rw (← c.self.view_is) at c.requires in
    rw c.in_ok-insert.ensures.items
    (rises_insert (λ e. e.0) 0 c.self.inside.entries.items c.args.at (c.args.key, c.args.value) (omega arith)
    c.self.invariant h)

pub returns-clause-inserted : goal.returns-clause-inserted
returns-clause-inserted g c =
    let h = rw (← c.self.view_is) at c.requires in
    rw (c.in_ok-insert.ensures.items, ← c.self.view_is)
    (put_gap c.args.key c.args.value c.self.inside.entries.items c.args.at h)
