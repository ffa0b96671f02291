use Rattle.std.proofs.Common.{refl, ap, arith}
use Rattle.pf_stepper.specs.View.{keeps}
use Rattle.pf_stepper.proofs.Slots.{kept_push}
use Rattle.pf_stepper.proofs.Matched.{applies}
use Rattle.pf_stepper.proofs.stack.Stack.right_done.Goals as goal

pub returns-in-Some : goal.returns-in-Some
returns-in-Some c =
    rw c.in-Some.ensures.items
    (applies _ c.args.own _ _ _ _ _ c.in-Some.left c.args.value (rw c.in-Some.ensures.items at c.requires.sound)
    c.args.binary c.args.id (record c.args.self.now { operands = c.pair_up.new.operands }) c.pair_up.result
    c.requires.kind refl refl
    c.pair_up.ensures)

pub returns-in-None : goal.returns-in-None
returns-in-None c = let z = ap keeps c.requires.kind in
    absurd (omega (
      arith,
      c.in-None.ensures.cases.0,
      c.args.self.now.operands.ok.0,
      kept_push c.args.self.now.frames.items c.args.frame,
    ))
