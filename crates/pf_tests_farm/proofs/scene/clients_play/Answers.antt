use denote.Param.{param}
use Rattle.pf_farm.proofs.Crossing as farm
use Rattle.pf_tests_farm.proofs.Crossing.{closure_sync, mark_sync}
use Rattle.pf_tests_farm.proofs.scene.clients_play.Goals as goal

pub for_each_mut-requires-sync-F : goal.for_each_mut-requires-sync-F
for_each_mut-requires-sync-F g c κs within =
    closure_sync _ _ _ _ 2 _ _ _ _ _ _ c.type_bounds.sync-R (farm.floor_sync (param 0 g.row.N) g.N.FarmNames)
    c.type_bounds.sync-S mark_sync
