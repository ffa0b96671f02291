use Rattle.std.proofs.Common.{◌≡◌, ap, refl, subst, false}
use Rattle.pf_ties.specs.Refusals.{IsRefusedOnlyIf}
use Rattle.pf_ties.specs.Ties.{may_register}
use Rattle.pf_terms.specs.Term.{value_of}
use Rattle.pf_system.specs.declared.shared.Shared.{Shared}
use Rattle.pf_system.proofs.Acting.{registers_so, not_registered, name_refused, named_refused, not_pid, not_atom}
use Rattle.pf_system.proofs.shared.Shared.register.Goals as goal

pub returns-in_default : goal.returns-in_default
returns-in_default c =
    let b = c.args.self.now in
    name_refused c.args.pid b b _ (value_of c.args.name) (value_of c.args.other)
    (not_atom c.args.name c.in_default.not-Atom)
    c.raising.ensures refl

pub returns-in_default-other : goal.returns-in_default-other
returns-in_default-other c =
    let b = c.args.self.now in
    named_refused c.args.pid b b _ (value_of c.args.name) (value_of c.args.other) c.in-Atom.name.0
    (ap value_of c.in-Atom.is) (not_pid c.args.other c.in_default-other.not-Pid) c.raising-in_default-other.ensures refl

pub returns-in-Ok : goal.returns-in-Ok
returns-in-Ok c =
    let b = c.args.self.now in
    let h = c.in-Ok.ensures in
    registers_so c.args.pid b (record { ties = c.register.new.self; channels = b.channels }) _ (value_of c.args.name)
    (value_of c.args.other) c.in-Atom.name.0 c.in-Pid.other (ap value_of c.in-Atom.is) (ap value_of c.in-Pid.is)
    h.allowed h.registered refl
    (λ d ss. c.giving_true.ensures d ss)

pub returns-in-Err-Fault : goal.returns-in-Err-Fault
returns-in-Err-Fault c =
    let b = c.args.self.now in
    let h = c.in-Err-Fault.ensures in
    not_registered c.args.pid b (record { ties = c.register.new.self; channels = b.channels }) _ (value_of c.args.name)
    (value_of c.args.other) c.in-Atom.name.0 c.in-Pid.other (ap value_of c.in-Atom.is) (ap value_of c.in-Pid.is)
    (subst (IsRefusedOnlyIf (may_register b.ties c.in-Atom.name.0 c.in-Pid.other ≡ false))
    c.in-Err-Fault.field-0-is h.refused)
    c.raising-in-Err-Fault.ensures (ap {B = Shared} (λ t. record { ties = t; channels = b.channels }) h.err)
