use Rattle.pf_farm_accounts.proofs.DequeSteps.{begins}
use Rattle.pf_farm_accounts.proofs.deque.open_deque_alone.Goals as goal

pub fifo_as-requires : goal.fifo_as-requires
fifo_as-requires g c = begins
