use Rattle.std.proofs.Common.{arith}
use Rattle.pf_channels.proofs.Heads.{counted_set, row_within}
use Rattle.pf_channels.proofs.Indices.{taken_at, nothing_at, nothing_past}
use Rattle.pf_channels.proofs.channels.Channels.deliver.Goals as goal

pub returns-then-sender-len-clause-nothing : goal.returns-then-sender-len-clause-nothing
returns-then-sender-len-clause-nothing c =
    rw (← c.self.view_is) (nothing_past c.args.from c.args.to c.self.inside.rows.items
    (omega (arith, c.len.ensures, c.if-sender-len.true)))

pub overflow_sub-self-2 : goal.overflow_sub-self-2
overflow_sub-self-2 c =
    let w = row_within c.self.inside.rows.items c.args.from c.index_mut-row.result.now c.self.inside.count
    c.self.invariant
    (omega (arith, c.len.ensures, c.if-sender-len.false)) c.index_mut-row.ensures.value in
    omega (arith, w, c.len-before.ensures.count)

pub invariant_of-self : goal.invariant_of-self
invariant_of-self c =
    let w = row_within c.self.inside.rows.items c.args.from c.index_mut-row.result.now c.self.inside.count
    c.self.invariant
    (omega (arith, c.len.ensures, c.if-sender-len.false)) c.index_mut-row.ensures.value in
    counted_set c.self.inside.rows.items c.args.from c.index_mut-row.result.now c.take-signal.new.self
    c.self.inside.count _ c.self.invariant
    (omega (arith, c.len.ensures, c.if-sender-len.false)) c.index_mut-row.ensures.value
    (omega (arith, c.self.invariant.within))
    (omega (arith, w, c.len-before.ensures.count, c.len-2.ensures.count, c.take-signal.ensures.count))

pub returns-clause-delivered : goal.returns-clause-delivered
returns-clause-delivered c =
    rw (← c.self.view_is)
    (taken_at c.args.from c.args.to c.self.inside.rows.items c.index_mut-row.result.now c.take-signal.new.self
    c.take-signal.result
    (omega (arith, c.len.ensures, c.if-sender-len.false)) c.index_mut-row.ensures.value c.take-signal.ensures.taken)

pub returns-clause-nothing : goal.returns-clause-nothing
returns-clause-nothing c =
    rw (← c.self.view_is)
    (nothing_at c.args.from c.args.to c.self.inside.rows.items c.index_mut-row.result.now c.take-signal.result
    (omega (arith, c.len.ensures, c.if-sender-len.false)) c.index_mut-row.ensures.value c.take-signal.ensures.nothing)
