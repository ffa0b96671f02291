use denote.Param.{param}
use denote.Param.Send.{sendable}
use Rattle.std.proofs.Common.{rules, ◌≡◌, ◌∙◌, ap, subst, ◌<◌, length}
use Rattle.pf_farm.proofs.Crossing.{closure_sync, floor_sync, work_seat_send}
use Rattle.pf_farm.proofs.Worked.{free_at, idle_each, ring_each}
use Rattle.pf_farm.proofs.workers.work_all.Goals as goal

pub for_each_mut-requires-send-T : goal.for_each_mut-requires-send-T
for_each_mut-requires-send-T g c κs within = search (work_seat_send, sendable) depth 20

pub for_each_mut-requires-sync-F : goal.for_each_mut-requires-sync-F
for_each_mut-requires-sync-F g c κs within =
    closure_sync _ _ _ 2 _ _ _ _ _ c.type_bounds.sync-R (floor_sync (param 0 g.row.N) g.N.FarmNames)
    c.type_bounds.sync-G

pub for_each_mut-requires-clause-accepts : goal.for_each_mut-requires-clause-accepts
for_each_mut-requires-clause-accepts g c κs within = λ i p inside is. ap (λ s. s.busy) is
    ∙ free_at c.args.seats.now i p.now c.requires.free inside

pub returns-clause-ring : goal.returns-clause-ring
returns-clause-ring g c = λ ring. let len : length c.for_each_mut.new.s ≡ length c.args.seats.now = search rules in
    ring_each c.args.seats.now c.for_each_mut.new.s len
    (λ i d inside. let made = (c.for_each_mut.ensures i d inside).1 in search rules) ring

pub returns-clause-idle : goal.returns-clause-idle
returns-clause-idle g c = let len : length c.for_each_mut.new.s ≡ length c.args.seats.now = search rules in
    idle_each c.for_each_mut.new.s (λ i d inside.
    let made = (c.for_each_mut.ensures i d (subst (λ n. i < n) len inside)).1 in search rules)
