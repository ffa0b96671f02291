use Rattle.std.proofs.Common.{sym, ap, ◌∙◌, rules}
use Rattle.pf_stepper.specs.Lookups.{patterns_after}
use Rattle.pf_stepper.proofs.Parts.{patterns_none, patterns_some, last_pattern, more_patterns}
use Rattle.pf_stepper.proofs.Given.{inside_cut}
use Rattle.pf_stepper.proofs.Matched.{match_done, match_fails_as, match_last_as, match_more_as}
use Rattle.pf_stepper.proofs.stack.Stack.match_one.Goals as goal

pub bind-requires : goal.bind-requires
bind-requires c = rw c.resume.ensures.env (inside_cut c.args.code.now c.args.own _ _ 0 _ c.args.frame c.args.value
    c.requires.sound)

pub returns-in-None : goal.returns-in-None
returns-in-None c =
    match_done _ c.args.own _ _ _ _ c.args.frame c.args.value c.requires.sound c.args.id c.args.done c.requires.kind
    (ap (patterns_after c.args.done) (sym c.patterns-patterns.ensures) ∙ patterns_none c.args.code.now.tables
    c.patterns-patterns.result.now c.args.done c.in-None.ensures.lookup.0)

pub returns-then-not-branch : goal.returns-then-not-branch
returns-then-not-branch c =
    let r = c.resume.ensures in
    rw (r.operands, r.frames, r.base)
    (match_fails_as _ c.args.own _ _ _ _ c.args.frame c.args.value c.requires.sound c.args.id c.args.done _ _
    (ap (patterns_after c.args.done) (sym c.patterns-patterns.ensures) ∙ patterns_some c.args.code.now.tables
    c.patterns-patterns.result.now c.args.done c.in-Some.pattern.now c.in-Some.ensures.lookup.0
    c.in-Some.ensures.lookup.1)
    _ _ r.env _ c.in_ok-bind-in-Some.ensures _ c.requires.kind (search rules) c.in_ok-reason-in-Some.ensures)

pub returns-else-done-patterns : goal.returns-else-done-patterns
returns-else-done-patterns c =
    let r = c.resume.ensures in
    rw (r.operands, r.frames, r.base)
    (match_last_as _ c.args.own _ _ _ _ c.args.frame c.args.value c.requires.sound c.args.id c.args.done _ _
    (ap (patterns_after c.args.done) (sym c.patterns-patterns.ensures) ∙ patterns_some c.args.code.now.tables
    c.patterns-patterns.result.now c.args.done c.in-Some.pattern.now c.in-Some.ensures.lookup.0
    c.in-Some.ensures.lookup.1)
    _ _ r.env _ c.in_ok-bind-in-Some.ensures c.requires.kind
    (last_pattern c.args.code.now.tables c.patterns-patterns.result.now c.args.done c.if-done-patterns.false)
    (search rules))

pub returns-in_ok-wait-in-Some : goal.returns-in_ok-wait-in-Some
returns-in_ok-wait-in-Some c =
    let w = c.in_ok-wait-in-Some.ensures in
    let r = c.resume.ensures in
    rw (w.ok, w.env, w.operands, w.base, r.operands, r.frames, r.base)
    (match_more_as _ c.args.own _ _ _ _ c.args.frame c.args.value c.requires.sound c.args.id c.args.done _ _
    (ap (patterns_after c.args.done) (sym c.patterns-patterns.ensures) ∙ patterns_some c.args.code.now.tables
    c.patterns-patterns.result.now c.args.done c.in-Some.pattern.now c.in-Some.ensures.lookup.0
    c.in-Some.ensures.lookup.1)
    _ _ r.env _ c.in_ok-bind-in-Some.ensures c.requires.kind
    (more_patterns c.args.code.now.tables c.patterns-patterns.result.now c.args.done c.if-done-patterns.true)
    (search rules))
