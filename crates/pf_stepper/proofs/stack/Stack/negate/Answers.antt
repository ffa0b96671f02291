use Rattle.pf_stepper.proofs.Given.{negates}
use Rattle.pf_stepper.proofs.stack.Stack.negate.Goals as goal

pub returns : goal.returns
returns c = negates _ _ _ _ _ _ _ _ c.requires.sound c.args.id _ c.requires.kind
    (rw c.negated.ensures at c.integer_outcome.ensures)
