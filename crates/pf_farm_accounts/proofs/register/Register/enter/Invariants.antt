use Rattle.std.proofs.Common.{Some}
use Rattle.pf_farm_accounts.proofs.register.Register.enter.Given as goal

abbrev pub ghosts-enter_as : goal.ghosts-enter_as
ghosts-enter_as g a = record { entry = Some a.entry.now }
