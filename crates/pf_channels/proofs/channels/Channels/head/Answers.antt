use Rattle.std.proofs.Common.{◌∙◌}
use Rattle.pf_channels.proofs.Heads.{sought_here, sought_later}
use Rattle.pf_channels.proofs.channels.Channels.head.Goals as goal

pub returns-then-left-count : goal.returns-then-left-count
returns-then-left-count c =
    let e = c.deref-row-items.ensures.value ∙ c.self.view_is in
    rw (← e)
    (sought_here c.deref-row-items.result.now c.args.k c.loop-row.from c.loop-row.left c.loop-row.row-index
    c.row-item.result c.receiver.result
    c.loop-row.invariant c.loop-row-test.true c.row-item.is (rw (← c.len-count.ensures.count) c.if-left-count.true)
    c.receiver.ensures)

pub loop-row-preserved : goal.loop-row-preserved
loop-row-preserved c =
    sought_later c.deref-row-items.result.now c.args.k c.loop-row.from c.loop-row.left c.loop-row.row-index
    c.len-count.result c.row-item.result
    c.loop-row.invariant c.loop-row-test.true c.row-item.is c.len-count.ensures.count c.if-left-count.false
