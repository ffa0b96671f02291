use Rattle.std.proofs.Common.{refl}
use Rattle.pf_sched.proofs.trace.SeenEventsTrace.notify.Goals as goal

pub returns : goal.returns
returns c j es reported = c.see.ensures _ refl j es reported
