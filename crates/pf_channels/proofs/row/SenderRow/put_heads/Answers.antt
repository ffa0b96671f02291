use Rattle.pf_channels.proofs.Heads.{one_head_more}
use Rattle.pf_channels.proofs.row.SenderRow.put_heads.Goals as goal

pub loop-at-preserved : goal.loop-at-preserved
loop-at-preserved c =
    one_head_more c.args.from c.args.self.now c.loop-at.at c.receiver.result c.loop-at.pairs.items c.push.new.self.items
    c.args.pairs.now.items c.receiver.ensures
    c.loop-at.invariant c.in_ok-push.ensures.items
