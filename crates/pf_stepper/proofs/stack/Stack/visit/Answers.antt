use Rattle.std.proofs.Common.{ap}
use Rattle.pf_patterns.specs.Substitution.{sub}
use Rattle.pf_syntax.specs.declared.node.Operand.TheVariants.{Node as names}
use Rattle.pf_stepper.proofs.Focused.{stays_here}
use Rattle.pf_stepper.proofs.stack.Stack.visit.Goals as goal

pub returns-in-None : goal.returns-in-None
returns-in-None c = stays_here _ c.args.own _ _ _ _ (names c.args.id) _ c.requires (ap (sub _) c.in-None.ensures.found)
