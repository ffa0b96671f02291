use Rattle.pf_syntax.specs.Over.{clauses_over}
use Rattle.pf_stepper.proofs.Outer.{grown_sound, took}
use Rattle.pf_stepper.proofs.Ready.{ready_after_wait, ready_awaiting}
use Rattle.pf_stepper.proofs.machine.receive.Goals as goal

pub returns-in-Some-clause-settled : goal.returns-in-Some-clause-settled
returns-in-Some-clause-settled g c =
    let s = c.args.stack.now in
    let env' = c.select.new.env.items in
    let t = rw c.in-Some.is at c.in_ok-picked.ensures.selected in
    rw (c.put.ensures, c.put-in-Some.ensures)
    (record {
      sound = grown_sound s.env.items env' t.added s.operands.items s.base s.frames.items t.grown c.requires.sound;
      moved = λ x k. took c.args.code.now c.args.own s.base s.env.items env' s.operands.items s.frames.items c.args.id _
          _ _ _ _ c.requires.sound c.clauses-clauses.ensures t x k.0;
      turn = tt;
    })

pub select-requires-clause-ready : goal.select-requires-clause-ready
select-requires-clause-ready g c =
    let code = c.args.code.now in
    ready_awaiting (g.I.Inbox.IsReady c.args.inbox.now) code c.args.own c.args.stack.now c.args.id
    (clauses_over code.tables c.clauses-clauses.result.now)
    c.clauses-clauses.ensures c.requires.ready

pub returns-in-None-clause-ready : goal.returns-in-None-clause-ready
returns-in-None-clause-ready g c =
    let code = c.args.code.now in
    let none = rw c.in-None.is at c.in_ok-picked.ensures.selected in
    rw c.put-in-None.ensures
    (ready_after_wait (g.I.Inbox.IsReady c.args.inbox.now) code c.args.own c.args.stack.now c.select.new.env.items
    (g.I.Inbox.IsReady c.select.new.self) c.args.id
    (clauses_over code.tables c.clauses-clauses.result.now) c.clauses-clauses.ensures c.requires.ready none.slots
    c.in_ok-picked.ensures.still)
