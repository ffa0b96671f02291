use denote.Exit.{no}
use denote.Param.{param}
use denote.Param.Send.{arg_send, param_send, sendable}
use Rattle.pf_farm.proofs.Crossing as farm
use Rattle.pf_clients.proofs.Crossing.{start_sync, work_send}
use Rattle.pf_clients.proofs.run.serve.Goals as goal

pub join_mut-requires-send-F : goal.join_mut-requires-send-F
join_mut-requires-send-F g c κs within =
    work_send _ _ _ _ _ 1 _ _ _ _ _ _ _ _ c.type_bounds.sync-T (farm.floor_sync (param 0 g.row.N) g.N.FarmNames)
    c.type_bounds.sync-G start_sync (farm.work_seat_send (param 0 g.row.N) g.N.FarmNames)

pub join_mut-requires-after_bounds : goal.join_mut-requires-after_bounds
join_mut-requires-after_bounds g c κs within =
    let b = c.type_bounds in (
      (
        (c.requires.some.1, c.requires.idle),
        (
          param_send 0 _ (arg_send _ no _ b.send-N),
          first_of (assumption b.sync-N, search (b.sync-N, sendable) depth 20),
          first_of (assumption b.sync-T, search (b.sync-T, sendable) depth 20),
          first_of (assumption b.sync-G, search (b.sync-G, sendable) depth 20),
        ),
      ),
      (
        (c.requires.some.0, c.requires.new),
        (
          param_send 0 _ (arg_send _ no _ b.send-N),
          param_send 1 _ (arg_send _ no _ b.send-V),
          param_send 2 _ (arg_send _ no _ b.send-S),
          param_send 5 _ (arg_send _ no _ b.send-S-File),
          first_of (assumption b.sync-N, search (b.sync-N, sendable) depth 20),
          first_of (assumption b.sync-T, search (b.sync-T, sendable) depth 20),
          first_of (assumption b.sync-G, search (b.sync-G, sendable) depth 20),
        ),
      ),
    )
