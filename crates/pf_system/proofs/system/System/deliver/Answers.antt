use Rattle.std.proofs.Common.{◌≡◌, ◌+◌, true, false, is_some, sym, subst, arith}
use Rattle.pf_model.specs.Channels.{taken}
use Rattle.pf_model.specs.declared.report.Actor.TheVariants.{Channel}
use Rattle.pf_model.specs.Reports.{label_of}
use Rattle.pf_system.specs.Steps.{MayGo, SimulatesTransition}
use Rattle.pf_system.proofs.Going.{has_signal}
use Rattle.pf_system.proofs.Passing.{unspent, still_valid, delivery_passes, system_with, valid_of}
use Rattle.pf_system.proofs.system.System.deliver.Goals as goal

pub deliver-requires-clause-sound : goal.deliver-requires-clause-sound
deliver-requires-clause-sound c = let i = c.self.invariant c.if-self.false in (i.0.core, i.1.core)

pub deliver-requires-clause-there : goal.deliver-requires-clause-there
deliver-requires-clause-there c =
    let i = c.self.invariant c.if-self.false in
    let may = subst (MayGo (Channel c.args.from c.args.to)) (sym c.self.view_is) c.requires.enabled in
    subst (λ cs. is_some (taken c.args.from c.args.to cs) ≡ true) (sym i.1.channels)
    (has_signal c.args.from c.args.to i.0 (may i.0 i.1))

pub overflow_add-self : goal.overflow_add-self
overflow_add-self c =
    let h = rw (← c.self.view_is) at c.requires.left in
    omega (arith, h, c.ranges.limit.fits)

pub invariant_of-self-2 : goal.invariant_of-self-2
invariant_of-self-2 c e =
    let f = c.self.inside in
    let m = f.module.value in
    let i = valid_of m f.steps f.spent f.processes c.if-self.false (c.self.invariant c.if-self.false) in
    still_valid 1 (system_with m f.steps false f.processes) (Channel c.args.from c.args.to)
    (label_of c.deliver.new.shown) 1 (system_with m (f.steps + 1) false c.deliver.new.self)
    (delivery_passes m f.processes c.deliver.new.self f.steps c.args.from c.args.to c.deliver.new.shown i.0 i.1
    c.in_ok-deliver.ensures)

pub returns-clause-passed : goal.returns-clause-passed
returns-clause-passed c =
    let f = c.self.inside in
    let m = f.module.value in
    let x = Channel c.args.from c.args.to in
    let l = label_of c.deliver.new.shown in
    let s = system_with m (f.steps + 1) false c.deliver.new.self in
    let i = valid_of m f.steps f.spent f.processes c.if-self.false (c.self.invariant c.if-self.false) in
    subst (λ z. SimulatesTransition 1 z x l 1 s)
    (sym (unspent c.args.self.now m f.steps f.spent f.processes c.self.view_is c.if-self.false))
    (delivery_passes m f.processes c.deliver.new.self f.steps c.args.from c.args.to c.deliver.new.shown i.0 i.1
    c.in_ok-deliver.ensures)
