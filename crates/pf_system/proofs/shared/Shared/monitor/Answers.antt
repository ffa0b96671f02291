use Rattle.std.proofs.Common.{sym, ap, ◌∙◌, refl}
use Rattle.pf_terms.specs.Term.{value_of}
use Rattle.pf_system.proofs.Acting.{monitor_refused, kind_refused, not_pid}
use Rattle.pf_system.proofs.shared.Shared.monitor.Goals as goal

pub returns-in_default : goal.returns-in_default
returns-in_default c =
    let b = c.args.self.now in
    monitor_refused c.args.pid b b _ (value_of c.args.kind) (value_of c.args.other)
    (not_pid c.args.other c.in_default.not-Pid)
    c.raising.ensures refl

pub returns-then-not-equal : goal.returns-then-not-equal
returns-then-not-equal c =
    let b = c.args.self.now in
    let k = sym c.equal.ensures ∙ c.if-not-equal.true in
    kind_refused c.args.pid b b _ (value_of c.args.kind) (value_of c.args.other) c.in-Pid.other
    (ap value_of c.in-Pid.is) k
    c.raising-then-not-equal.ensures refl
