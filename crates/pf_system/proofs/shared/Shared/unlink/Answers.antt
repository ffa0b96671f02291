use Rattle.std.proofs.Common.{ap, ◌∙◌, refl}
use Rattle.pf_terms.specs.Term.{value_of}
use Rattle.pf_model.specs.Channels as signal
use Rattle.pf_system.specs.Acts.{answer}
use Rattle.pf_system.proofs.Acting.{unlinks_so, unlink_refused, not_pid, sent_if, none_unless}
use Rattle.pf_system.proofs.shared.Shared.unlink.Goals as goal
use Rattle.pf_system.proofs.shared.Shared.unlink.Goals.{then-unlink+in_ok-send, else-unlink}

pub returns-in_default : goal.returns-in_default
returns-in_default c =
    let b = c.args.self.now in
    unlink_refused c.args.pid b b _ (value_of c.args.other) (not_pid c.args.other c.in_default.not-Pid)
    c.raising.ensures refl

pub returns : goal.returns
returns c =
    let b = c.args.self.now in
    let p = c.in-Pid.other in
    let k = c.unlink.ensures in
    let t = c.unlink.result in
    let done = unlinks_so c.args.pid b c.if-unlink.self (answer c.giving_true.result c.giving_true.new.shown)
    (value_of c.args.other) p t (ap value_of c.in-Pid.is) k.was in
    elim c.if-unlink.branch [
      | then-unlink+in_ok-send w ↦
          done (ap (λ z. z.ties) w.self-is ∙ k.unlinked)
          (sent_if c.args.pid t (p, signal.unlink) b.channels c.if-unlink.self.channels w.if-unlink.true
          (ap (λ z. z.channels) w.self-is ∙ w.in_ok-send.ensures.sent))
          (λ d ss. c.giving_true.ensures d ss)
      | else-unlink w ↦
          done (ap (λ z. z.ties) w.self-is ∙ k.unlinked)
          (none_unless c.args.pid t (p, signal.unlink) b.channels c.if-unlink.self.channels w.if-unlink.false
          (ap (λ z. z.channels) w.self-is))
          (λ d ss. c.giving_true.ensures d ss)
    ]
