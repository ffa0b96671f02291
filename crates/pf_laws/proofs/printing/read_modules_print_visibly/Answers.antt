use Rattle.pf_laws.proofs.ReadModules as read
use Rattle.pf_laws.proofs.printing.read_modules_print_visibly.Goals as goal

pub returns : goal.returns
returns c = read.read_modules_print_visibly
