use Rattle.pf_farm_accounts.proofs.Moves.{begins}
use Rattle.pf_farm_accounts.proofs.register.NewRegister.new.Goals as goal

pub fifo_as-requires : goal.fifo_as-requires
fifo_as-requires g c = begins
