use denote.Param.{param}
use Rattle.pf_farm.proofs.Crossing as farm
use Rattle.pf_tests_farm.proofs.Crossing.{work_send}
use Rattle.pf_tests_farm.proofs.scene.all_play.Goals as goal

pub join_mut-requires-send-F : goal.join_mut-requires-send-F
join_mut-requires-send-F g c κs within =
    work_send _ _ _ _ 1 _ _ _ _ _ _ _ c.type_bounds.sync-R (farm.floor_sync (param 0 g.row.N) g.N.FarmNames)
    c.type_bounds.sync-S (farm.work_seat_send (param 0 g.row.N) g.N.FarmNames)
