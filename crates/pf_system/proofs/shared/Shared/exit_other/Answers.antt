use Rattle.std.proofs.Common.{ap, ◌∙◌, refl, false}
use Rattle.pf_terms.specs.Term.{value_of}
use Rattle.pf_model.specs.Channels.{sent, exit}
use Rattle.pf_system.proofs.Acting.{exits_so, exit_refused, not_pid}
use Rattle.pf_system.proofs.shared.Shared.exit_other.Goals as goal

pub returns-in_default : goal.returns-in_default
returns-in_default c =
    let b = c.args.self.now in
    exit_refused c.args.pid b b _ (value_of c.args.other) (value_of c.args.reason)
    (not_pid c.args.other c.in_default.not-Pid)
    c.raising.ensures refl

pub returns : goal.returns
returns c =
    let b = c.args.self.now in
    let p = c.in-Pid.other in
    exits_so c.args.pid b (record { ties = b.ties; channels = c.send.new.self }) _ (value_of c.args.other)
    (value_of c.args.reason) p
    (ap value_of c.in-Pid.is) refl
    (c.in_ok-send.ensures.sent ∙ ap (λ z. sent c.args.pid p (exit false z) b.channels) c.in_ok-copy.ensures)
    (λ d ss. c.giving_true.ensures d ss)
