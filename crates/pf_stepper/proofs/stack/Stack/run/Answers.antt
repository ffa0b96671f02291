use Rattle.std.proofs.Common.{arith}
use Rattle.pf_model.specs.Module.{module_of}
use Rattle.pf_stepper.specs.Advanced.{no_step}
use Rattle.pf_stepper.proofs.Contractions.{steps_add, ran_all, ran_until, one_after}
use Rattle.pf_stepper.proofs.stack.Stack.run.Goals as goal

pub loop-used-init : goal.loop-used-init
loop-used-init c = record { steps = no_step _; sound = c.requires; within = omega arith }

pub returns-then-used-left : goal.returns-then-used-left
returns-then-used-left c =
    let h = c.in_ok-used.ensures in
    rw c.put.ensures
    (ran_all c.args.code.now c.args.own c.args.left _ c.hurry.new.self c.hurry.new.focus _ c.if-used-left.true
    (steps_add (module_of c.args.code.now) c.args.own c.loop-used.used c.in_ok-used.field-0 _ _ _
    c.loop-used.invariant.steps h.steps) h.sound)

pub returns-then-branch : goal.returns-then-branch
returns-then-branch c =
    let h = c.in_ok-used.ensures in
    let t = rw c.if-branch.true at c.in_ok-stops.ensures in
    ran_until c.args.code.now c.args.own c.args.left _ _ c.stops.new.self c.stops.new.advance _ t.stops
    (omega (arith, h.within, c.if-used-left.false, c.loop-used-test.true))
    (steps_add (module_of c.args.code.now) c.args.own c.loop-used.used c.in_ok-used.field-0 _ _ _
    c.loop-used.invariant.steps h.steps) t.advanced

pub returns-in_default : goal.returns-in_default
returns-in_default c =
    let h = c.in_ok-used.ensures in
    let z = rw c.if-branch.false at c.in_ok-stops.ensures in
    rw c.put-in_default.ensures
    (ran_until c.args.code.now c.args.own c.args.left _ _ c.advance.new.self c.in_ok-stop.stop _
    c.in_default.not-Changed (omega (arith, h.within, c.if-used-left.false, c.loop-used-test.true))
    (steps_add (module_of c.args.code.now) c.args.own c.loop-used.used c.in_ok-used.field-0 _ _ _
    c.loop-used.invariant.steps h.steps) (rw (z.0, z.1) at c.in_ok-stop.ensures))

pub loop-used-preserved : goal.loop-used-preserved
loop-used-preserved c =
    let h = c.in_ok-used.ensures in
    let z = rw c.if-branch.false at c.in_ok-stops.ensures in
    let changed = rw (z.0, z.1) at (rw c.in-Changed.is at c.in_ok-stop.ensures) in
    record {
      steps = one_after c.args.code.now c.args.own c.args.left c.loop-used.used c.in_ok-used.field-0 _ _ _ _
          c.loop-used.invariant.steps h.steps changed.0;
      sound = changed.1;
      within = omega (arith, h.within, c.if-used-left.false, c.loop-used-test.true);
    }
