use Rattle.pf_stepper.proofs.Given.{inside_cut}
use Rattle.pf_stepper.proofs.Matched.{selects}
use Rattle.pf_stepper.proofs.stack.Stack.select.Goals as goal

pub choose-requires : goal.choose-requires
choose-requires c = rw c.resume.ensures.env (inside_cut c.args.code.now c.args.own _ _ 0 _ c.args.frame c.args.value
    c.requires.sound)

pub returns : goal.returns
returns c =
    let r = c.resume.ensures in
    rw (r.operands, r.frames, r.base)
    (selects _ _ _ _ _ _ c.args.frame c.args.value c.requires.sound c.args.id _ _ _ c.requires.kind
    (rw (← r.env, ← c.clauses-clauses.ensures) c.in_ok-body.ensures.picked) c.in_ok-chosen.ensures)
