use Rattle.std.proofs.Common.{◌-◌, ◌∙◌, subst, arith}
use Rattle.pf_sched.specs.Parts.{events_so_far}
use Rattle.pf_sched.specs.Slices.{NextRunFollows, GoesPast, runs_left}
use Rattle.pf_sched.proofs.Shrunk.{at_edge, goes_further}
use Rattle.pf_sched.proofs.shrinking.Shrinking.advance.Goals as goal

pub returns-then-not-branch : goal.returns-then-not-branch
returns-then-not-branch c =
    let j = c.args.job.now in
    let inv = c.loop-shrinking.invariant in
    let g =
    goes_further j c.loop-shrinking.shrinking c.go.new.self inv.0 c.loop-shrinking.left c.in_ok-go.ensures.rest
    c.in_ok-go.ensures.valid
    c.in_ok-go.field-0 c.if-not-branch.true c.in_ok-go.ensures.run in
    (g.0, g.1 ∙ inv.1, subst (GoesPast j) inv.1 g.2)

pub overflow_sub-left : goal.overflow_sub-left
overflow_sub-left c =
    let edge =
    at_edge c.args.job.now c.loop-shrinking.shrinking c.go.new.self c.loop-shrinking.invariant.0 c.loop-shrinking.left
    c.in_ok-go.ensures.rest
    c.in_ok-go.field-0 c.if-not-branch.false c.in_ok-go.ensures.run in
    omega (arith, edge.from, c.len-had.ensures, c.len.ensures)

pub overflow_cast-left : goal.overflow_cast-left
overflow_cast-left c =
    let edge =
    at_edge c.args.job.now c.loop-shrinking.shrinking c.go.new.self c.loop-shrinking.invariant.0 c.loop-shrinking.left
    c.in_ok-go.ensures.rest
    c.in_ok-go.field-0 c.if-not-branch.false c.in_ok-go.ensures.run in
    omega (arith, edge.within, c.len-had.ensures, c.len.ensures, c.loop-shrinking.auto.left-fits)

pub overflow_sub-left-in-loop-shrinking : goal.overflow_sub-left-in-loop-shrinking
overflow_sub-left-in-loop-shrinking c =
    let edge =
    at_edge c.args.job.now c.loop-shrinking.shrinking c.go.new.self c.loop-shrinking.invariant.0 c.loop-shrinking.left
    c.in_ok-go.ensures.rest
    c.in_ok-go.field-0 c.if-not-branch.false c.in_ok-go.ensures.run in
    omega (arith, edge.within, c.len-had.ensures, c.len.ensures)

pub follow-requires-clause-shrinking : goal.follow-requires-clause-shrinking
follow-requires-clause-shrinking c =
    (at_edge c.args.job.now c.loop-shrinking.shrinking c.go.new.self c.loop-shrinking.invariant.0 c.loop-shrinking.left
    c.in_ok-go.ensures.rest
    c.in_ok-go.field-0 c.if-not-branch.false c.in_ok-go.ensures.run).shrinking

pub follow-requires-clause-over : goal.follow-requires-clause-over
follow-requires-clause-over c =
    (at_edge c.args.job.now c.loop-shrinking.shrinking c.go.new.self c.loop-shrinking.invariant.0 c.loop-shrinking.left
    c.in_ok-go.ensures.rest
    c.in_ok-go.field-0 c.if-not-branch.false c.in_ok-go.ensures.run).over

pub loop-shrinking-preserved : goal.loop-shrinking-preserved
loop-shrinking-preserved c =
    let j = c.args.job.now in
    let s = c.loop-shrinking.shrinking in
    let t = c.go.new.self in
    let inv = c.loop-shrinking.invariant in
    let edge =
    at_edge j s t inv.0 c.loop-shrinking.left c.in_ok-go.ensures.rest c.in_ok-go.field-0 c.if-not-branch.false
    c.in_ok-go.ensures.run in
    let f = subst (NextRunFollows j (events_so_far t) (runs_left t.hunt - 1)) c.in-More.is c.in_ok-next.ensures in
    (f.0, omega (arith, f.1, inv.1, edge.before, edge.from, edge.within, c.len-had.ensures, c.len.ensures))

pub returns-in-Over : goal.returns-in-Over
returns-in-Over c =
    let j = c.args.job.now in
    let s = c.loop-shrinking.shrinking in
    let t = c.go.new.self in
    let inv = c.loop-shrinking.invariant in
    let edge =
    at_edge j s t inv.0 c.loop-shrinking.left c.in_ok-go.ensures.rest c.in_ok-go.field-0 c.if-not-branch.false
    c.in_ok-go.ensures.run in
    let f = subst (NextRunFollows j (events_so_far t) (runs_left t.hunt - 1)) c.in-Over.is c.in_ok-next.ensures in
    ((f.0.0, (f.0.1.0, f.0.1.1, omega (arith, f.0.1.2, inv.1, edge.before, edge.within))), f.1)
