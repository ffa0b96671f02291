use Rattle.pf_lower.proofs.Growing.{grown_on}
use Rattle.pf_lower.proofs.Lists_put.{part_step}
use Rattle.pf_lower.proofs.put.put_list.Goals as goal

pub loop-element-preserved : goal.loop-element-preserved
loop-element-preserved c =
    let i = c.loop-element.invariant in
    let put = c.in_ok-list.ensures in
    let s = part_step c.args.module.now c.loop-element.module c.put_node.new.module c.loop-element.front.items
    c.pop.new.self.items c.in-Some.element
    c.loop-element.list c.in_ok-list.list _ c.in-Some.ensures.items i.grown i.all put i.is in
    record {
      grown = grown_on c.args.module.now c.loop-element.module c.put_node.new.module i.grown put.grown;
      all = s.0;
      is_there = put.is_there;
      is = s.1;
    }
