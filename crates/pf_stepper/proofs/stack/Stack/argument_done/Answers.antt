use Rattle.std.proofs.Common.{◌+◌}
use Rattle.pf_stepper.proofs.Follows.{passed}
use Rattle.pf_stepper.proofs.Given.{argument_done, argument_stacked, inside_cut}
use Rattle.pf_stepper.proofs.stack.Stack.argument_done.Goals as goal

pub pass-requires-clause-stacked : goal.pass-requires-clause-stacked
pass-requires-clause-stacked c =
    let r = c.resume.ensures in
    rw (c.in_ok-push.ensures.items, r.env, r.operands, r.frames)
    (argument_stacked c.args.code.now c.args.own _ _ 0 _ c.args.frame c.args.value c.requires.sound c.args.callee
    c.args.id c.args.done c.requires.kind)

pub pass-requires-clause-inside : goal.pass-requires-clause-inside
pass-requires-clause-inside c = rw (c.resume.ensures.env, c.resume.ensures.base)
    (inside_cut c.args.code.now c.args.own _ _ 0 _ c.args.frame c.args.value c.requires.sound)

pub returns : goal.returns
returns c =
    let r = c.resume.ensures in
    passed _ c.args.own (record c.resume.new.self { operands = c.push.new.self }) c.args.callee c.args.id
    (c.args.done + 1) c.pass.new.self _
    c.args.self.now.env.items c.args.self.now.operands.items c.args.self.now.base _ _
    (rw (c.in_ok-push.ensures.items, r.env, r.operands, r.frames, r.base)
    (argument_done _ c.args.own _ _ _ _ c.args.frame c.args.value c.requires.sound c.args.callee c.args.id
    c.args.done c.requires.kind)) c.pass.ensures
