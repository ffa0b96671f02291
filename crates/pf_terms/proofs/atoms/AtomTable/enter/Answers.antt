use Rattle.std.proofs.Common.{sym}
use Rattle.pf_terms.proofs.Names.{present}
use Rattle.pf_terms.proofs.atoms.AtomTable.enter.Goals as goal

pub returns-in-Some-clause-names : goal.returns-in-Some-clause-names
returns-in-Some-clause-names c = sym (present c.args.self.now c.args.name.now c.in-Some.atom.0 c.in-Some.ensures.found)
