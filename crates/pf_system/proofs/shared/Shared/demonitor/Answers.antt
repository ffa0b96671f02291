use Rattle.std.proofs.Common.{ap, ◌∙◌}
use Rattle.pf_system.specs.Acts.{answer}
use Rattle.pf_system.proofs.Acting.{demonitors_so, sent_to, sent_to_none}
use Rattle.pf_system.proofs.shared.Shared.demonitor.Goals as goal
use Rattle.pf_system.proofs.shared.Shared.demonitor.Goals.{in-Some+in_ok-send, in_default}

pub returns : goal.returns
returns c =
    let b = c.args.self.now in
    let k = c.args.reference in
    let h = c.demonitor.ensures in
    let o = c.demonitor.result in
    let b' = c.match-demonitor.self in
    let done = demonitors_so c.args.pid b b' (answer c.giving_true.result c.giving_true.new.shown) k
    c.args.flushes o h.was in
    elim c.match-demonitor.branch [
      | in-Some+in_ok-send w ↦
          done (ap (λ z. z.ties) w.self-is ∙ h.demonitored)
          (sent_to c.args.pid k w.in-Some.other o b.channels b'.channels w.in-Some.is
          (ap (λ z. z.channels) w.self-is ∙ w.in_ok-send.ensures.sent))
          (λ d ss. c.giving_true.ensures d ss)
      | in_default w ↦
          done (ap (λ z. z.ties) w.self-is ∙ h.demonitored)
          (sent_to_none c.args.pid k o b.channels b'.channels w.in_default.not-Some (ap (λ z. z.channels) w.self-is))
          (λ d ss. c.giving_true.ensures d ss)
    ]
