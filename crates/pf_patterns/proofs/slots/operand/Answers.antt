use Rattle.std.proofs.Common.{sym}
use Rattle.pf_patterns.proofs.Operands.{not_bound}
use Rattle.pf_patterns.proofs.slots.operand.Goals as goal

pub returns-in-None : goal.returns-in-None
returns-in-None c = rw c.in-Slot.is (not_bound c.args.code.now.tables _ c.in-Slot.index (sym c.in-None.ensures))
