use Rattle.std.proofs.Common.{◌+◌, ap, ◌∙◌, arith, length}
use Rattle.std.proofs.lemmas.Result.{on_ok_weaker}
use Rattle.pf_model.specs.Channels.{sent}
use Rattle.pf_model.specs.Signals.{signal_of}
use Rattle.pf_system.proofs.Rows.{senders_length, sent_padded}
use Rattle.pf_system.proofs.shared.Shared.reply.Goals as goal

pub send-requires : goal.send-requires
send-requires c =
    let cs = c.args.self.now.channels in
    let n = ap length c.in_ok-open_to.ensures.opened in
    let k = (senders_length (c.args.from + 1) cs).1 in
    omega arith

pub returns-clause-sent : goal.returns-clause-sent
returns-clause-sent c =
    let cs = c.args.self.now.channels in
    let s = signal_of c.args.signal in
    on_ok_weaker c.send.result
    (λ e. e ∙ ap (sent c.args.from c.args.to s) c.in_ok-open_to.ensures.opened ∙ sent_padded c.args.from c.args.to s cs)
    c.send.ensures.sent
