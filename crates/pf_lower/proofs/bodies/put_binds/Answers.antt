use Rattle.pf_lower.proofs.Growing.{grown_on}
use Rattle.pf_lower.proofs.Bodies_mean.{bind_step}
use Rattle.pf_lower.proofs.bodies.put_binds.Goals as goal

pub loop-element-preserved : goal.loop-element-preserved
loop-element-preserved c =
    let i = c.loop-element.invariant in
    let put = c.in_ok-body.ensures in
    let s = bind_step c.args.module.now c.loop-element.module c.put_node.new.module c.loop-element.front.items
    c.pop.new.self.items c.in-Some.element
    c.loop-element.body c.in_ok-body.body _ c.in-Some.ensures.items i.grown i.all put i.is in
    record {
      grown = grown_on c.args.module.now c.loop-element.module c.put_node.new.module i.grown put.grown;
      all = s.0;
      is_there = put.is_there;
      is = s.1;
    }
