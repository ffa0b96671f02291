use Rattle.std.proofs.Common.{sym}
use Rattle.pf_channels.proofs.Heads.{counted_opened}
use Rattle.pf_channels.proofs.Indices.{opened}
use Rattle.pf_channels.proofs.channels.Channels.open.Goals as goal

pub invariant_of-self-2 : goal.invariant_of-self-2
invariant_of-self-2 c =
    let l = rw (← c.self.view_is) at c.requires in
    let e = c.in_ok-push.ensures.items in
    rw (e, c.new.ensures) (counted_opened c.self.inside.rows.items c.self.inside.count c.self.invariant l)

pub returns-clause-opened : goal.returns-clause-opened
returns-clause-opened c =
    let e = c.in_ok-push.ensures.items in
    rw (e, c.new.ensures, ← c.self.view_is) (sym (opened c.self.inside.rows.items))
