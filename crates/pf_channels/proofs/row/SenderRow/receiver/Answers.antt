use Rattle.std.proofs.Common.{arith}
use Rattle.pf_channels.proofs.Rows.{receiver_at, receiver_key}
use Rattle.pf_channels.proofs.row.SenderRow.receiver.Goals as goal

pub overflow_cast-result : goal.overflow_cast-result
overflow_cast-result c =
    let l = rw (← c.self.view_is) at c.requires in
    let e = c.as_slice.ensures in
    rw e (omega (arith, receiver_at c.self.inside.queues c.args.at c.index-as_slice-at.result c.self.invariant l))

pub returns : goal.returns
returns c =
    let l = rw (← c.self.view_is) at c.requires in
    rw (c.as_slice.ensures, ← c.self.view_is) (receiver_key c.self.inside.queues c.args.at c.index-as_slice-at.result l)
