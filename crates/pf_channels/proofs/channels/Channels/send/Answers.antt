use Rattle.std.proofs.Common.{arith}
use Rattle.pf_channels.proofs.Heads.{counted_set}
use Rattle.pf_channels.proofs.Indices.{sent_at}
use Rattle.pf_channels.proofs.channels.Channels.send.Goals as goal

pub invariant_of-self-2 : goal.invariant_of-self-2
invariant_of-self-2 c =
    let l = rw (← c.self.view_is) at c.requires in
    counted_set c.self.inside.rows.items c.args.from c.index_mut-row.result.now c.send.new.self c.self.inside.count _
    c.self.invariant l
    c.index_mut-row.ensures.value
    (omega (
      arith,
      c.len-before.ensures.count,
      c.len.ensures.count,
      c.in_ok-send.ensures.one,
      c.if-self-ge-MOST_HEADS.false,
    ))
    (omega (arith, c.len-before.ensures.count, c.len.ensures.count, c.in_ok-send.ensures.count))

pub returns-clause-sent : goal.returns-clause-sent
returns-clause-sent c =
    let l = rw (← c.self.view_is) at c.requires in
    rw (← c.self.view_is)
    (sent_at c.args.from c.args.to _ c.self.inside.rows.items c.index_mut-row.result.now c.send.new.self l
    c.index_mut-row.ensures.value
    c.in_ok-send.ensures.sent)
