use Rattle.std.proofs.Common.{refl}
use Rattle.pf_terms.specs.Term.{value_of}
use Rattle.pf_system.proofs.Acting.{whereis_refused, not_atom}
use Rattle.pf_system.proofs.shared.Shared.whereis.Goals as goal

pub returns-in_default : goal.returns-in_default
returns-in_default c =
    let b = c.args.self.now in
    whereis_refused c.args.pid b b _ (value_of c.args.name) (not_atom c.args.name c.in_default.not-Atom)
    c.raising.ensures refl
