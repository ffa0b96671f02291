use Rattle.pf_clients.proofs.Lines.{waits}
use Rattle.pf_clients.proofs.line.wait.Goals as goal

pub returns : goal.returns
returns g c =
    let e = c.wait_done.ensures in
    waits c.wait_done.result c.args.ticket c.args.seat.now c.wait_done.new.seat c.new-text.result.items e.own.0 e.own.1
    e.over e.seat c.new-text.ensures.items
