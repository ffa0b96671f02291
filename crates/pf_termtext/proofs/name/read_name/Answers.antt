use Rattle.pf_termtext.proofs.Written.{name_more, name_ends, name_fails}
use Rattle.pf_termtext.proofs.name.read_name.Goals as goal

pub loop-byte-preserved : goal.loop-byte-preserved
loop-byte-preserved c =
    rw c.in_ok-push.ensures.items
    (name_more c.loop-byte.name.items c.loop-byte.rest.now c.in-Some.byte c.in-Some.more.now _ c.in-Some.ensures
    c.loop-byte.invariant)

pub returns-in-Some-after : goal.returns-in-Some-after
returns-in-Some-after c =
    name_ends c.loop-byte.name.items c.loop-byte.rest.now c.in-Some-after.rest.now _ c.in_default.ensures
    c.in-Some-after.ensures c.loop-byte.invariant

pub returns : goal.returns
returns c =
    rw c.no_term.ensures
    (name_fails c.loop-byte.name.items c.loop-byte.rest.now _ c.in_default.ensures c.in-None.ensures
    c.loop-byte.invariant)
