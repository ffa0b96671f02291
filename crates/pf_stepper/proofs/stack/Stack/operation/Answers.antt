use Rattle.pf_stepper.proofs.Focused.{pair_node, after_slot_node}
use Rattle.pf_stepper.proofs.Follows.{descended}
use Rattle.pf_stepper.proofs.stack.Stack.operation.Goals as goal

pub returns-in_ok-wait-in-Some : goal.returns-in_ok-wait-in-Some
returns-in_ok-wait-in-Some c =
    let w = c.in_ok-wait-in-Some.ensures in
    rw (w.ok, w.env, w.operands, w.base)
    (after_slot_node _ c.args.own _ _ _ _ c.args.id c.requires.sound c.args.binary _ _ _ c.requires.found
    c.in-Some.ensures.in_scope)

pub returns-in-None : goal.returns-in-None
returns-in-None c = descended _ c.args.own c.args.self.now _ _ c.descend.new.self _ _ _ _ _ _
    (pair_node _ c.args.own _ _ _ _ c.args.id c.requires.sound _ _ _ c.requires.found) c.descend.ensures
