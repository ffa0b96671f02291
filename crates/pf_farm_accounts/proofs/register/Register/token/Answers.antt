use Rattle.pf_farm_accounts.proofs.Moves.{blanks}
use Rattle.pf_farm_accounts.proofs.register.Register.token.Goals as goal

pub another-requires : goal.another-requires
another-requires g c = blanks _ _
