use Rattle.std.proofs.Common.{sym, subst, refl}
use Rattle.std.specs.Prelude.{IfOk}
use Rattle.pf_turns.specs.Turns.{IsStopOf}
use Rattle.pf_machine.specs.Lifted.{IsMoveOf}
use Rattle.pf_stepper.specs.declared.machine.Move.TheVariants as v
use Rattle.pf_machine.proofs.lifting.move_of.Goals as goal

pub returns-in-Cut : goal.returns-in-Cut
returns-in-Cut c = subst (λ s. IsMoveOf c.args.heap.now s v.Pure) (sym c.in-Cut.is) refl

pub returns-in-Receives : goal.returns-in-Receives
returns-in-Receives c = subst (λ s. IsMoveOf c.args.heap.now s v.Wait) (sym c.in-Receives.is) tt

pub acted-requires : goal.acted-requires
acted-requires c = subst (IsStopOf c.args.heap.now) c.in-Acts.is c.requires

pub returns-in-Acts : goal.returns-in-Acts
returns-in-Acts c = subst (λ s. IfOk c.acted.result (IsMoveOf c.args.heap.now s)) (sym c.in-Acts.is) c.acted.ensures

pub sent-requires : goal.sent-requires
sent-requires c =
    let w = subst (IsStopOf c.args.heap.now) c.in-Sends.is c.requires in record { to = w.0; message = w.1 }

pub returns-in-Sends : goal.returns-in-Sends
returns-in-Sends c = subst (λ s. IfOk c.sent.result (IsMoveOf c.args.heap.now s)) (sym c.in-Sends.is) c.sent.ensures

pub returned-requires : goal.returned-requires
returned-requires c = subst (IsStopOf c.args.heap.now) c.in-Returns.is c.requires

pub returns-in-Returns : goal.returns-in-Returns
returns-in-Returns c =
    subst (λ s. IfOk c.returned.result (IsMoveOf c.args.heap.now s)) (sym c.in-Returns.is) c.returned.ensures

pub ended-requires : goal.ended-requires
ended-requires c = subst (IsStopOf c.args.heap.now) c.in-Ends.is c.requires

pub returns-in-Ends : goal.returns-in-Ends
returns-in-Ends c = subst (λ s. IfOk c.ended.result (IsMoveOf c.args.heap.now s)) (sym c.in-Ends.is) c.ended.ensures
