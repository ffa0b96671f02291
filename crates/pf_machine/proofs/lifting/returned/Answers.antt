use Rattle.std.proofs.Common.{refl}
use Rattle.pf_machine.proofs.lifting.returned.Goals as goal

pub returns : goal.returns
returns c = (c.in_ok-value.value, refl, c.in_ok-value.ensures)
