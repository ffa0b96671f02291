use Rattle.std.proofs.Common.{refl}
use Rattle.std.specs.Prelude.{Ok}
use Rattle.pf_stepper.specs.declared.frame.FrameKind.TheVariants as k
use Rattle.pf_stepper.specs.declared.frame.MicroStep.TheVariants as t
use Rattle.pf_stepper.proofs.Focused.{can_wait}
use Rattle.pf_stepper.proofs.Follows.{descends_at_once}
use Rattle.pf_stepper.proofs.Matched.{selects_at_once}
use Rattle.pf_stepper.proofs.stack.Stack.case.Goals as goal

pub returns-in_ok-chosen-in-Some : goal.returns-in_ok-chosen-in-Some
returns-in_ok-chosen-in-Some c =
    let w = can_wait c.args.code.now c.args.own _ _ _ _ (k.Case c.args.id) c.requires.sound refl in
    descends_at_once c.args.code.now c.args.own c.args.self.now (k.Case c.args.id) c.args.part
    (record c.args.self.now { env = c.choose.new.env }) (Ok (t.Contracted c.in_ok-chosen-in-Some.field-0))
    c.in-Some.value w (rw c.in-Some.is at c.in_ok-value.ensures)
    (selects_at_once c.args.code.now c.args.own _ _ _ _ c.in-Some.value c.args.id _ _ _ _ w.stacked c.requires.clauses
    c.in_ok-body-in-Some.ensures.picked c.in_ok-chosen-in-Some.ensures)
