use Rattle.std.proofs.Common.{refl}
use Rattle.pf_stepper.proofs.Given.{pairs_after_slot, paired_up_ok, holes_cut, under_cut}
use Rattle.pf_stepper.specs.declared.frame.FrameKind.TheVariants as k
use Rattle.pf_stepper.proofs.stack.Stack.right_after_slot.Goals as goal

pub returns : goal.returns
returns c =
    let r = c.resume.ensures in
    paired_up_ok _ c.args.own _ _ _ _ c.args.frame c.args.value (k.BinaryAfterSlot c.args.binary c.args.index c.args.id)
    _ c.in_ok-left.left c.resume.new.self.operands.items
    (record c.resume.new.self { operands = c.pair_up.new.operands }) c.pair_up.result c.requires.kind
    (pairs_after_slot c.args.code.now c.args.own _ _ c.args.self.now.base _ c.args.frame c.args.value c.requires.sound
    c.args.binary c.args.index c.args.id c.in_ok-left.left (rw (r.env, r.base) at c.in_ok-left.ensures))
    (rw (r.env, r.operands, r.frames) (holes_cut c.args.code.now c.args.own _ _ c.args.self.now.base _ c.args.frame
    c.args.value c.requires.sound))
    (rw (r.env, r.operands, r.frames) (under_cut c.args.code.now c.args.own _ _ c.args.self.now.base _ c.args.frame
    c.args.value c.requires.sound _ c.requires.kind refl))
    c.pair_up.ensures
