use Rattle.std.proofs.Common.{◌≡◌, zero, ◌+◌, ◌-◌, ◌<◌, ◌≤◌, ◌∷◌, ◌++◌, [], inl, inr, length, sym, subst, arith}
use Rattle.pf_sched.specs.Parts.{Executes}
use Rattle.pf_sched.specs.Slices.{IsRunOver}
use Rattle.pf_sched.specs.Traces.{MayHaveGone, WentOn}
use Rattle.pf_sched.proofs.Reported.{over_by}
use Rattle.pf_sched.proofs.Sliced.{ended}
use Rattle.pf_sched.proofs.Traces.{executes_next, length_last}
use Rattle.pf_sched.proofs.execution.Execution.advance.Goals as goal

pub returns-then-steps-limit : goal.returns-then-steps-limit
returns-then-steps-limit g c j cs es e run reported =
    let i = c.loop.invariant j cs es e run reported in
    let count : length i.0 ≤ length es + c.args.turns = omega arith in
    let none : c.args.limit - c.loop.self.system.steps ≡ zero = omega arith in
    (i.0, i.1, i.2, (omega arith, count, inr none))

pub returns-then-not-branch : goal.returns-then-not-branch
returns-then-not-branch g c j cs es e run reported =
    let i = c.loop.invariant j cs es e run reported in
    let x = c.loop.self in
    let w =
    subst (λ o. MayHaveGone g.T.Trace.Reported
    (c.args.limit - x.system.steps) i.1.run.last x c.loop.trace o c.go.new.self
    c.go.new.trace) c.if-not-branch.true
    (c.in_ok-go.ensures i.1.run.last i.1.run.is_there) in
    let count : length i.0 ≤ length es + c.args.turns = omega arith in (
      i.0,
      subst (Executes j cs i.0) (sym w.1) i.1,
      subst (λ t. g.T.Trace.Reported t j.asked i.0) (sym w.2) i.2,
      (
        omega arith,
        count,
        subst (IsRunOver c.args.limit) (sym w.1)
            (over_by c.args.limit x i.1.run.last i.1.run.is_there (inl w.0)),
      ),
    )

pub loop-preserved : goal.loop-preserved
loop-preserved g c j cs es e run reported =
    let i = c.loop.invariant j cs es e run reported in
    let x = c.loop.self in
    let w =
    subst (λ o. MayHaveGone g.T.Trace.Reported
    (c.args.limit - x.system.steps) i.1.run.last x c.loop.trace o c.go.new.self
    c.go.new.trace) c.if-not-branch.false
    (c.in_ok-go.ensures i.1.run.last i.1.run.is_there) in
    let left : c.args.limit - x.system.steps ≡ j.asked.limit - x.system.steps = omega arith in
    let some : x.system.steps < j.asked.limit = omega arith in
    let went = subst (λ n. WentOn n i.1.run.last x w.0 c.go.new.self) left w.1 in
    let there = executes_next j cs i.0 x c.go.new.self i.1 w.0 some went in
    let more = length_last i.0 w.0 in
    (i.0 ++ w.0 ∷ [], there, w.2 j.asked i.0 i.2, omega arith)

pub returns : goal.returns
returns g c j cs es e run reported =
    let i = c.loop.invariant j cs es e run reported in
    let count : length i.0 ≡ length es + c.args.turns = omega arith in (
      i.0,
      i.1,
      i.2,
      ended c.args.limit (length es) (length i.0) c.args.turns c.loop.self i.1.run.last i.1.run.is_there
          count c.is_over.result (c.is_over.ensures i.1.run.last i.1.run.is_there),
    )
