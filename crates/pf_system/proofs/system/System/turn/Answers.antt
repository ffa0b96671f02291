use Rattle.std.proofs.Common.{◌+◌, ◌-◌, false, sym, subst, arith}
use Rattle.pf_model.specs.declared.report.Actor.TheVariants.{Process}
use Rattle.pf_model.specs.Reports.{label_of}
use Rattle.pf_system.specs.Steps.{MayGo, SimulatesTransition}
use Rattle.pf_system.proofs.Passing.{unspent, still_valid, system_with, valid_of}
use Rattle.pf_system.proofs.Systems.{can_go_of, turn_passes}
use Rattle.pf_system.proofs.system.System.turn.Goals as goal

pub turn-requires-clause-can : goal.turn-requires-clause-can
turn-requires-clause-can c =
    let i = c.self.invariant c.if-self.false in
    let may = subst (MayGo (Process c.args.pid)) (sym c.self.view_is) c.requires.enabled in
    record { core = i.0.core; is_there = i.1.core; can = can_go_of c.args.pid i.0 (may i.0 i.1) }

pub turn-requires-clause-left : goal.turn-requires-clause-left
turn-requires-clause-left c = let h = rw (← c.self.view_is) at c.requires.left in omega arith

pub overflow_add-self : goal.overflow_add-self
overflow_add-self c =
    let f = c.self.inside in
    let i = c.self.invariant c.if-self.false in
    let may = subst (MayGo (Process c.args.pid)) (sym c.self.view_is) c.requires.enabled in
    let turned = c.in_ok-used.ensures i.0.core i.1.core (can_go_of c.args.pid i.0 (may i.0 i.1)) in
    let h = rw (← c.self.view_is) at c.requires.left in
    omega (arith, h, turned.within, c.ranges.limit.fits)

pub invariant_of-self-2 : goal.invariant_of-self-2
invariant_of-self-2 c e =
    let f = c.self.inside in
    let m = f.module.value in
    let n = c.args.limit - f.steps in
    let u = c.in_ok-used.used in
    let x = Process c.args.pid in
    let i = valid_of m f.steps f.spent f.processes c.if-self.false (c.self.invariant c.if-self.false) in
    let may = subst (MayGo x) (unspent c.args.self.now m f.steps f.spent f.processes c.self.view_is c.if-self.false)
    c.requires.enabled in
    still_valid n (system_with m f.steps false f.processes) x (label_of c.turn.new.shown) u
    (system_with m (f.steps + u) false c.turn.new.self)
    (turn_passes m f.processes c.turn.new.self f.steps c.args.pid n u c.turn.new.shown i.0 i.1 may
    c.in_ok-used.ensures)

pub returns-clause-passed : goal.returns-clause-passed
returns-clause-passed c =
    let f = c.self.inside in
    let m = f.module.value in
    let u = c.in_ok-used.used in
    let x = Process c.args.pid in
    let l = label_of c.turn.new.shown in
    let s = system_with m (f.steps + u) false c.turn.new.self in
    let i = valid_of m f.steps f.spent f.processes c.if-self.false (c.self.invariant c.if-self.false) in
    let v = unspent c.args.self.now m f.steps f.spent f.processes c.self.view_is c.if-self.false in
    let may = subst (MayGo x) v c.requires.enabled in
    subst (λ z. SimulatesTransition (c.args.limit - z.steps) z x l u s) (sym v)
    (turn_passes m f.processes c.turn.new.self f.steps c.args.pid (c.args.limit - f.steps) u c.turn.new.shown i.0 i.1
    may c.in_ok-used.ensures)
