use Rattle.pf_stepper.proofs.Outer.{settles_change, settles_send, settles_ask, settles_return, settles_end}
use Rattle.pf_stepper.proofs.Ready.{ready_anyhow, ready_sending, ready_asking, ready_returned, ready_ended}
use Rattle.pf_stepper.proofs.machine.settle.Goals as goal

pub returns-in-Changed-clause-settled : goal.returns-in-Changed-clause-settled
returns-in-Changed-clause-settled g c =
    rw (c.in-Changed.is, c.put.ensures, c.put-in-Changed.ensures)
    (settles_change c.args.code.now c.args.own c.args.stack.now _ _ (rw c.in-Changed.is at c.requires.sound))

pub returns-in-Sends-clause-settled : goal.returns-in-Sends-clause-settled
returns-in-Sends-clause-settled g c =
    rw (c.in-Sends.is, c.put-in-Sends.ensures, c.put-in-Sends-2.ensures)
    (settles_send c.args.code.now c.args.own c.args.stack.now _ c.in-Sends.message c.unwrap-to.result c.pop.new.self
    (rw c.unwrap-to.ensures at c.pop.ensures.items) (rw c.in-Sends.is at c.requires.sound))

pub returns-in-Sends-clause-ready : goal.returns-in-Sends-clause-ready
returns-in-Sends-clause-ready g c =
    let ready = g.I.Inbox.IsReady c.args.inbox.now in
    rw c.put-in-Sends.ensures
    (ready_anyhow ready _ (ready_sending ready c.args.code.now c.args.own c.args.stack.now c.in-Sends.message
    (rw c.in-Sends.is at c.requires.ready)))

pub returns-in-Asks-clause-settled : goal.returns-in-Asks-clause-settled
returns-in-Asks-clause-settled g c =
    rw (c.in-Asks.is, c.put-in-Asks.ensures, c.put-in-Asks-2.ensures)
    (settles_ask c.args.code.now c.args.own c.args.stack.now _ _ _ c.into_inner.ensures
    (rw c.in-Asks.is at c.requires.sound))

pub returns-in-Asks-clause-ready : goal.returns-in-Asks-clause-ready
returns-in-Asks-clause-ready g c =
    let ready = g.I.Inbox.IsReady c.args.inbox.now in
    rw c.put-in-Asks.ensures
    (ready_anyhow ready _ (ready_asking ready c.args.code.now c.args.own c.args.stack.now c.in-Asks.act
    (rw c.in-Asks.is at c.requires.ready)))

pub returns-in-Returned-clause-settled : goal.returns-in-Returned-clause-settled
returns-in-Returned-clause-settled g c =
    rw (c.in-Returned.is, c.put-in-Returned.ensures, c.put-in-Returned-2.ensures)
    (settles_return c.args.code.now c.args.own c.args.stack.now _ _)

pub returns-in-Returned-clause-ready : goal.returns-in-Returned-clause-ready
returns-in-Returned-clause-ready g c =
    let ready = g.I.Inbox.IsReady c.args.inbox.now in
    rw c.put-in-Returned.ensures
    (ready_anyhow ready _ (ready_returned ready c.args.code.now c.args.own c.args.stack.now c.in-Returned.value
    (rw c.in-Returned.is at c.requires.ready)))

pub returns-in-Ended-clause-settled : goal.returns-in-Ended-clause-settled
returns-in-Ended-clause-settled g c =
    rw (c.in-Ended.is, c.put-in-Ended.ensures, c.put-in-Ended-2.ensures)
    (settles_end c.args.code.now c.args.own c.args.stack.now _ _)

pub returns-in-Ended-clause-ready : goal.returns-in-Ended-clause-ready
returns-in-Ended-clause-ready g c =
    let ready = g.I.Inbox.IsReady c.args.inbox.now in
    rw c.put-in-Ended.ensures
    (ready_anyhow ready _ (ready_ended ready c.args.code.now c.args.own c.args.stack.now c.in-Ended.reason
    (rw c.in-Ended.is at c.requires.ready)))
