use Rattle.std.proofs.Common.{subst}
use Rattle.pf_terms.specs.Numbers.{HasNumbers}
use Rattle.pf_terms.proofs.atoms.AtomTable.len.Goals as goal

pub returns-clause-distinct : goal.returns-clause-distinct
returns-clause-distinct c = (subst HasNumbers c.self.view_is c.self.invariant).distinct
