use Rattle.std.proofs.Common.{refl, ap, ◌∙◌, ◌-◌}
use Rattle.pf_stepper.specs.declared.frame.Callee.TheVariants as callee
use Rattle.pf_stepper.specs.declared.frame.MicroStep.TheVariants as t
use Rattle.pf_stepper.proofs.Entered.{comes}
use Rattle.pf_stepper.proofs.stack.Stack.build.Goals as goal

pub returns : goal.returns
returns c =
    comes c.args.code.now c.args.own _ _ c.args.self.now.base _ callee.Tuple c.args.count c.requires
    (record c.args.self.now { operands = c.split_off.new.self }) (t.Contracted c.outcome.result) _ _ refl refl
    (ap (λ l. l - c.args.count) (c.len.ensures ∙ c.args.self.now.operands.ok.0)) c.in_ok-elements.ensures.items
    c.in_ok-elements.ensures.tail (rw c.in_ok-tuple.ensures at c.outcome.ensures)
