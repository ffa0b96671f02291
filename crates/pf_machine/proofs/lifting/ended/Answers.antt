use Rattle.std.proofs.Common.{refl}
use Rattle.pf_machine.proofs.lifting.ended.Goals as goal

pub returns : goal.returns
returns c = (c.in_ok-reason.reason, refl, c.in_ok-reason.ensures)
