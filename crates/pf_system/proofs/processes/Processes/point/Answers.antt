use Rattle.std.proofs.Common.{rules, ◌≡◌, false, Some, sym, subst}
use Rattle.std.specs.Prelude.{IfSome, MatchOption, slice_get}
use Rattle.std.proofs.lemmas.Option.{slice_get_read}
use Rattle.pf_model.specs.Configuration.{is_alive, of}
use Rattle.pf_model.specs.Deliveries.{woken}
use Rattle.pf_stepper.specs.Points.{IsPointOf}
use Rattle.pf_system.specs.Bodies.{process_body}
use Rattle.pf_system.specs.Slots.{SlotRepresents}
use Rattle.pf_system.specs.declared.processes.Processes.{Processes}
use Rattle.pf_system.proofs.Changed.{body_at}
use Rattle.pf_system.proofs.Points.{none_there}
use Rattle.pf_system.proofs.processes.Processes.point.Goals as goal

pub returns-in-Some-clause-own : goal.returns-in-Some-clause-own
returns-in-Some-clause-own c d h =
    let w : Processes = c.args.self.now in
    let s = c.in-Some.slot.now in
    let b = process_body (of d c.args.pid) in
    let at : slice_get w.slots.items c.args.pid ≡ Some s = search (rules, slice_get_read) in
    let body = subst (λ m. SlotRepresents m c.args.pid s b) (sym c.deref-in-Some.ensures)
    (body_at w d c.args.pid s h at) in
    subst (λ m. IfSome c.point.result (λ x. x.0.now ≡ m)) c.deref-in-Some.ensures
    (c.point.ensures.own c.args.pid b body)

pub returns-in-Some-clause-point : goal.returns-in-Some-clause-point
returns-in-Some-clause-point c d h =
    let w : Processes = c.args.self.now in
    let s = c.in-Some.slot.now in
    let b = process_body (of d c.args.pid) in
    let at : slice_get w.slots.items c.args.pid ≡ Some s = search (rules, slice_get_read) in
    let body = subst (λ m. SlotRepresents m c.args.pid s b) (sym c.deref-in-Some.ensures)
    (body_at w d c.args.pid s h at) in
    subst (λ m. MatchOption c.point.result (is_alive b.state ≡ false) (λ x. IsPointOf m.tables (woken b.state) x.1))
    c.deref-in-Some.ensures (c.point.ensures.point c.args.pid b body)

pub returns-in-None-clause-point : goal.returns-in-None-clause-point
returns-in-None-clause-point c d h = none_there c.args.self.now d c.args.pid h (search rules)
