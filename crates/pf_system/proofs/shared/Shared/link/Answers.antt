use Rattle.std.proofs.Common.{ap, ◌∙◌, refl}
use Rattle.pf_terms.specs.Term.{value_of}
use Rattle.pf_model.specs.Channels as signal
use Rattle.pf_system.specs.Acts.{answer}
use Rattle.pf_system.proofs.Acting.{links_so, link_refused, not_pid, sent_if, none_unless}
use Rattle.pf_system.proofs.shared.Shared.link.Goals as goal
use Rattle.pf_system.proofs.shared.Shared.link.Goals.{then-branch+in_ok-send, else-branch}

pub returns-in_default : goal.returns-in_default
returns-in_default c =
    let b = c.args.self.now in
    link_refused c.args.pid b b _ (value_of c.args.other) (not_pid c.args.other c.in_default.not-Pid)
    c.raising.ensures refl

pub returns : goal.returns
returns c =
    let b = c.args.self.now in
    let p = c.in-Pid.other in
    let k = c.in_ok-link.ensures in
    let t = c.in_ok-link.field-0 in
    let done = links_so c.args.pid b c.if-branch.self (answer c.giving_true.result c.giving_true.new.shown)
    (value_of c.args.other) p t (ap value_of c.in-Pid.is) k.new in
    elim c.if-branch.branch [
      | then-branch+in_ok-send w ↦
          done (ap (λ z. z.ties) w.self-is ∙ k.linked)
          (sent_if c.args.pid t (p, signal.link) b.channels c.if-branch.self.channels w.if-branch.true
          (ap (λ z. z.channels) w.self-is ∙ w.in_ok-send.ensures.sent))
          (λ d ss. c.giving_true.ensures d ss)
      | else-branch w ↦
          done (ap (λ z. z.ties) w.self-is ∙ k.linked)
          (none_unless c.args.pid t (p, signal.link) b.channels c.if-branch.self.channels w.if-branch.false
          (ap (λ z. z.channels) w.self-is))
          (λ d ss. c.giving_true.ensures d ss)
    ]
