use Rattle.std.proofs.Common.{arith}
use Rattle.pf_roots.proofs.Puts.{all_put}
use Rattle.pf_roots.proofs.moving.move_machines.Goals as goal

pub returns : goal.returns
returns c =
    let l = c.loop-index in
    all_put c.args.machines.now l.machines l.index c.args.words.now l.rest.now
    (omega (arith, c.loop-index-test.false, l.invariant.count)) l.invariant.count l.invariant.put
