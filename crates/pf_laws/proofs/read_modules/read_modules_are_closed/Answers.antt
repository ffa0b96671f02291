use Rattle.pf_laws.proofs.Closed.{read_modules_are_closed}
use Rattle.pf_laws.proofs.read_modules.read_modules_are_closed.Goals as goal

pub returns : goal.returns
returns g c = read_modules_are_closed _
