use Rattle.std.proofs.Common.{◌≡◌, sym, ap, ◌∙◌, Some, rules}
use Rattle.pf_stepper.proofs.Given.{decides, goes_on_right, decides_nothing}
use Rattle.pf_stepper.proofs.stack.Stack.shortcut.Goals as goal

pub returns-then-truth-decides : goal.returns-then-truth-decides
returns-then-truth-decides c =
    let r = c.resume.ensures in
    let e : c.in-Some.truth ≡ c.args.decides = search rules in
    rw (r.env, r.operands, r.frames, r.base)
    (decides _ _ _ _ _ _ c.args.frame c.args.value c.requires.sound c.args.decides c.args.id c.requires.kind
    (sym c.truth_of.ensures ∙ c.in-Some.is ∙ ap (λ b. Some b) e))

pub returns-else-truth-decides : goal.returns-else-truth-decides
returns-else-truth-decides c =
    let r = c.resume.ensures in
    let ne : c.in-Some.truth ≡ c.args.decides → ⊥ = search rules in
    rw (r.env, r.operands, r.frames, r.base)
    (goes_on_right _ _ _ _ _ _ c.args.frame c.args.value c.requires.sound c.args.decides c.args.id c.requires.kind _
    c.in-Some.truth (sym c.truth_of.ensures ∙ c.in-Some.is) ne c.operation-right.ensures.right)

pub returns-in_ok-reason-in-None : goal.returns-in_ok-reason-in-None
returns-in_ok-reason-in-None c =
    let r = c.resume.ensures in
    rw (r.env, r.operands, r.frames, r.base)
    (decides_nothing _ _ _ _ _ _ c.args.frame c.args.value c.requires.sound c.args.decides c.args.id c.requires.kind _
    (sym c.truth_of.ensures ∙ c.in-None.is) c.in_ok-reason-in-None.ensures)
