use Rattle.pf_stepper.proofs.Focused.{can_wait}
use Rattle.pf_stepper.proofs.Follows.{descends_at_once}
use Rattle.pf_stepper.proofs.stack.Stack.descend.Goals as goal

pub fill-requires : goal.fill-requires
fill-requires c = rw c.frame-frame.ensures (can_wait c.args.code.now c.args.own _ _ _ _ c.args.kind c.requires.sound
    c.requires.keeps).stacked

pub returns-in-Some : goal.returns-in-Some
returns-in-Some c =
    descends_at_once c.args.code.now c.args.own c.args.self.now c.args.kind c.args.part c.fill.new.self c.fill.result
    c.in-Some.value
    (can_wait c.args.code.now c.args.own _ _ _ _ c.args.kind c.requires.sound c.requires.keeps)
    (rw c.in-Some.is at c.in_ok-value.ensures) (rw c.frame-frame.ensures at c.fill.ensures)
