use Rattle.pf_hints.proofs.Fillers.{fixed_not}
use Rattle.pf_hints.proofs.reporting.next_fault.Goals as goal

pub returns-in_default-clause-rest : goal.returns-in_default-clause-rest
returns-in_default-clause-rest c = fixed_not c.args.fixed.now.items
