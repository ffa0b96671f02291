use Rattle.std.proofs.Common.{refl}
use Rattle.pf_machine.proofs.lifting.acted.Goals as goal

pub returns : goal.returns
returns c = (c.in_ok-action.action, refl, c.in_ok-action.ensures)
