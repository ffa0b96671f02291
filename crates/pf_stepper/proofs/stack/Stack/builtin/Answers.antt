use Rattle.std.proofs.Common.{refl, ap, ◌∙◌, ◌-◌, drop}
use Rattle.std.proofs.lemmas.List.{take_rest}
use Rattle.pf_stepper.specs.declared.frame.Callee.TheVariants as callee
use Rattle.pf_stepper.proofs.Entered.{comes}
use Rattle.pf_stepper.proofs.stack.Stack.builtin.Goals as goal

pub returns : goal.returns
returns c =
    comes c.args.code.now c.args.own _ _ c.args.self.now.base _ (callee.Builtin c.args.builtin) c.args.count c.requires
    (record c.args.self.now { operands = c.truncate.new.self }) c.in_ok-done.done _ _ refl refl
    (ap (λ l. l - c.args.count) (c.len.ensures ∙ c.args.self.now.operands.ok.0)) c.truncate.ensures.items
    (take_rest c.deref.result.now (c.len.result - c.args.count) ∙ ap (drop (c.len.result - c.args.count))
    c.deref.ensures.value) c.in_ok-done.ensures
