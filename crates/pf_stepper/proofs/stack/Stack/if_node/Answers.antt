use Rattle.std.proofs.Common.{refl}
use Rattle.pf_stepper.proofs.Matched.{if_goes}
use Rattle.pf_stepper.proofs.stack.Stack.if_node.Goals as goal

pub returns-in-Some : goal.returns-in-Some
returns-in-Some c = if_goes _ _ _ _ _ _ c.args.id _ c.requires.sound c.requires.found _ _
    (rw c.in-Some.is at c.in_ok-body.ensures.picked) _ refl

pub returns : goal.returns
returns c = if_goes _ _ _ _ _ _ c.args.id _ c.requires.sound c.requires.found _ _
    (rw c.in-None.is at c.in_ok-body.ensures.picked) _ (_, refl, refl)
