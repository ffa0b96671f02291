use denote.Param.Send.{sendable}
use Rattle.pf_sched.proofs.Crossing.{crosses}
use Rattle.pf_sched.proofs.parked.crosses_threads.Goals as goal

pub needs_send-requires-send-T : goal.needs_send-requires-send-T
needs_send-requires-send-T c κs = search (crosses, sendable) depth 20

pub needs_send-requires-2-send-T : goal.needs_send-requires-2-send-T
needs_send-requires-2-send-T c κs = search (crosses, sendable) depth 20
