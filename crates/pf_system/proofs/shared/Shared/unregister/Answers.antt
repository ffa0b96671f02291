use Rattle.std.proofs.Common.{ap, refl}
use Rattle.pf_terms.specs.Term.{value_of}
use Rattle.pf_system.specs.declared.shared.Shared.{Shared}
use Rattle.pf_system.proofs.Acting.{unregisters_so, not_unregistered, unregister_refused, not_atom}
use Rattle.pf_system.proofs.shared.Shared.unregister.Goals as goal

pub returns-in_default : goal.returns-in_default
returns-in_default c =
    let b = c.args.self.now in
    unregister_refused c.args.pid b b _ (value_of c.args.name) (not_atom c.args.name c.in_default.not-Atom)
    c.raising.ensures refl

pub returns-in-Ok : goal.returns-in-Ok
returns-in-Ok c =
    let b = c.args.self.now in
    let h = c.in-Ok.ensures in
    unregisters_so c.args.pid b (record { ties = c.unregister.new.self; channels = b.channels }) _
    (value_of c.args.name)
    c.in-Atom.name.0 (ap value_of c.in-Atom.is) h.was h.unregistered refl (λ d ss. c.giving_true.ensures d ss)

pub returns-in-Err : goal.returns-in-Err
returns-in-Err c =
    let b = c.args.self.now in
    let h = c.in-Err.ensures in
    not_unregistered c.args.pid b (record { ties = c.unregister.new.self; channels = b.channels }) _
    (value_of c.args.name)
    c.in-Atom.name.0 (ap value_of c.in-Atom.is) h.was c.raising-in-Err.ensures
    (ap {B = Shared} (λ t. record { ties = t; channels = b.channels }) h.err)
