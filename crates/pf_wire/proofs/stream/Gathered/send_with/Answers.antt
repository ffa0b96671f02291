use Rattle.std.proofs.lemmas.Result.{on_err_weaker, on_ok_weaker}
use Rattle.pf_streams.proofs.Writes.{appends_both}
use Rattle.pf_wire.proofs.Adding.{at_err}
use Rattle.pf_trace.proofs.Fronts.{front_of_both, front_of_more}
use Rattle.pf_wire.proofs.stream.Gathered.send_with.Goals as goal

pub returns-in_err-send-clause-front : goal.returns-in_err-send-clause-front
returns-in_err-send-clause-front g c = at_err c.from_residual.result
    (front_of_more _ _ c.args.self.now.text.items c.args.text.now c.in_err-send.ensures.front)

pub returns-clause-sent : goal.returns-clause-sent
returns-clause-sent g c =
    let first = c.in_ok-send.ensures.sent in
    on_ok_weaker c.put.result (λ h. (appends_both _ _ _ c.args.self.now.text.items c.args.text.now first.0 h, first.1))
    c.put.ensures.written

pub returns-clause-front : goal.returns-clause-front
returns-clause-front g c =
    let first = c.in_ok-send.ensures.sent in
    on_err_weaker c.put.result (λ h. front_of_both _ _ _ c.args.self.now.text.items c.args.text.now first.0 h)
    c.put.ensures.front
