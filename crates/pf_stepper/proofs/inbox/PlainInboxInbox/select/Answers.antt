use Rattle.std.proofs.Common.{arith, ◌∙◌}
use Rattle.pf_syntax.specs.Over.{clauses_over}
use Rattle.pf_stepper.proofs.Scans.{same_read, passed_more, takes_at, takes_none}
use Rattle.pf_stepper.proofs.inbox.PlainInboxInbox.select.Goals as goal

pub returns-in-Some-clause-selected : goal.returns-in-Some-clause-selected
returns-in-Some-clause-selected c =
    let xs = c.loop-at.self.messages.items in
    let same = same_read xs c.loop-at.at c.index.result.now c.remove.result (omega arith) c.index.ensures
    c.remove.ensures.value in
    let picked = rw (c.in-Some.is, same, c.loop-at.invariant.slots) at c.in_ok-body.ensures.picked in
    rw (← c.loop-at.invariant.same)
    (takes_at c.args.code.now c.args.own c.args.base c.args.env.now.items
    (clauses_over c.args.code.now.tables c.args.clauses.now) xs c.loop-at.at c.remove.result
    (omega arith) c.remove.ensures.value c.loop-at.invariant.passed c.choose.new.env.items c.remove.new.self.items
    c.in-Some.body c.remove.ensures.items picked)

pub loop-at-preserved : goal.loop-at-preserved
loop-at-preserved c =
    let xs = c.loop-at.self.messages.items in
    let picked = rw (c.in_default.is, c.loop-at.invariant.slots) at c.in_ok-body.ensures.picked in
    record {
      same = c.loop-at.invariant.same;
      slots = c.in_ok-body.ensures.stays c.in_default.is ∙ c.loop-at.invariant.slots;
      passed = passed_more c.args.code.now c.args.own c.args.base c.args.env.now.items
          (clauses_over c.args.code.now.tables c.args.clauses.now) xs c.loop-at.at c.index.result.now
          (omega arith) c.index.ensures c.loop-at.invariant.passed c.choose.new.env.items picked;
    }

pub returns-clause-selected : goal.returns-clause-selected
returns-clause-selected c =
    takes_none c.args.code.now c.args.own c.args.base c.args.env.now.items c.loop-at.env.items
    (clauses_over c.args.code.now.tables c.args.clauses.now)
    c.args.self.now.messages.items c.loop-at.self.messages.items c.loop-at.at c.loop-at.invariant.same
    c.loop-at.invariant.slots (omega arith) c.loop-at.invariant.passed
