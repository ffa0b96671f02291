use Rattle.std.proofs.Common.{refl}
use Rattle.pf_stepper.proofs.Given.{goes_right, pairs_at_once, paired_up_ok, holes_cut, under_cut}
use Rattle.pf_stepper.specs.declared.frame.FrameKind.TheVariants as k
use Rattle.pf_stepper.proofs.stack.Stack.left_done.Goals as goal

pub returns-in-Some : goal.returns-in-Some
returns-in-Some c =
    let r = c.resume.ensures in
    paired_up_ok _ c.args.own _ _ _ _ c.args.frame c.args.value (k.BinaryLeft c.args.id) _ c.args.value
    c.resume.new.self.operands.items
    (record c.resume.new.self { operands = c.pair_up.new.operands }) c.pair_up.result c.requires.kind
    (pairs_at_once c.args.code.now c.args.own _ _ c.args.self.now.base _ c.args.frame c.args.value c.requires.sound
    c.args.id _ _ c.in-Some.other c.requires.kind (
      c.operation-binary.ensures.binary,
      c.operation-binary.ensures.right,
    )
    (rw (r.env, r.base, c.in-Some.is) at c.in_ok-other.ensures))
    (rw (r.env, r.operands, r.frames) (holes_cut c.args.code.now c.args.own _ _ c.args.self.now.base _ c.args.frame
    c.args.value c.requires.sound))
    (rw (r.env, r.operands, r.frames) (under_cut c.args.code.now c.args.own _ _ c.args.self.now.base _ c.args.frame
    c.args.value c.requires.sound _ c.requires.kind refl))
    c.pair_up.ensures

pub returns-in_ok-wait-in-None : goal.returns-in_ok-wait-in-None
returns-in_ok-wait-in-None c =
    let w = c.in_ok-wait-in-None.ensures in
    let r = c.resume.ensures in
    rw (w.ok, w.env, w.operands, w.base, c.in_ok-push-in-None.ensures.items, r.env, r.operands, r.frames, r.base)
    (goes_right _ c.args.own _ _ _ _ c.args.frame c.args.value c.requires.sound c.args.id _ _ c.requires.kind
    (c.operation-binary.ensures.binary, c.operation-binary.ensures.right))
