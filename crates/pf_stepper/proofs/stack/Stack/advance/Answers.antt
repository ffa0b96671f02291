use Rattle.std.proofs.Common.{◌∙◌, subst}
use Rattle.pf_patterns.specs.Slots.{activation}
use Rattle.pf_patterns.specs.Substitution.{sub_clauses}
use Rattle.pf_syntax.specs.Module.{tree_at}
use Rattle.pf_model.specs.Module.{module_of}
use Rattle.pf_model.specs.Context.{awaits}
use Rattle.pf_stepper.specs.Lookups.{clauses_in}
use Rattle.pf_stepper.specs.View.{holes_of}
use Rattle.pf_stepper.specs.MicroSteps.{Contracts}
use Rattle.pf_stepper.proofs.Focused.{awaits_at}
use Rattle.pf_stepper.proofs.stack.Stack.advance.Goals as goal

pub returns-in-Awaits : goal.returns-in-Awaits
returns-in-Awaits c =
    let a = rw c.in-Awaits.is at c.in_ok-next.ensures in
    let s = c.micro_step.new.self in
    let m = c.args.code.now in
    let e = a.process ∙ c.loop-next.invariant.process in (
      subst (λ p. Contracts (module_of m) c.args.own p
          (awaits (holes_of m.tables s.env.items s.operands.items s.frames.items)
          (sub_clauses (activation s.env.items s.base) (clauses_in (tree_at m.tables c.in-Awaits.id.0))))) e
          (awaits_at m c.args.own s.env.items s.operands.items s.base s.frames.items c.in-Awaits.id a.receives),
      e,
      a.sound,
    )
