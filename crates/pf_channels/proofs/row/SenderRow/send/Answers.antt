use Rattle.pf_model.specs.Signals.{signal_of}
use Rattle.pf_channels.proofs.Rows.{receivers_value, sent_found, refused_found, count_found, one_found, sent_gap}
use Rattle.pf_channels.proofs.Rows.{receivers_gap, count_gap, one_gap}
use Rattle.pf_channels.proofs.row.SenderRow.send.Goals as goal

pub invariant_of-self : goal.invariant_of-self
invariant_of-self c = receivers_value c.self.inside.queues c.in-Ok.at c.push.new.self c.self.invariant

pub invariant_of-self-in-Err : goal.invariant_of-self-in-Err
invariant_of-self-in-Err c =
    let inserted = rw c.from-key.ensures at c.insert_at.ensures.inserted in
    receivers_gap c.args.to c.in_ok-queue-in-Err.queue c.self.inside.queues c.insert_at.new.self c.insert_at.result
    c.ranges.to.fits
    c.self.invariant inserted c.insert_at.ensures.refused

pub returns-in-Ok-clause-sent : goal.returns-in-Ok-clause-sent
returns-in-Ok-clause-sent c =
    let h = rw c.from-key.ensures at c.in-Ok.ensures.found in
    rw (← c.self.view_is)
    (sent_found c.args.to c.self.inside.queues c.in-Ok.at c.value_mut.result.now c.push.new.self
    (signal_of c.args.signal) c.push.result
    h.1 c.value_mut.ensures.value c.push.ensures.pushed)

pub returns-in-Ok-clause-refused : goal.returns-in-Ok-clause-refused
returns-in-Ok-clause-refused c =
    rw (← c.self.view_is)
    (refused_found c.args.to c.self.inside.queues c.in-Ok.at c.value_mut.result.now c.push.new.self c.push.result
    c.value_mut.ensures.value
    c.push.ensures.refused)

pub returns-in-Ok-clause-count : goal.returns-in-Ok-clause-count
returns-in-Ok-clause-count c =
    rw (← c.self.view_is) (count_found c.args.to c.self.inside.queues c.in-Ok.at c.push.new.self c.push.result)

pub returns-in-Ok-clause-one : goal.returns-in-Ok-clause-one
returns-in-Ok-clause-one c =
    rw (← c.self.view_is) (one_found c.args.to c.self.inside.queues c.in-Ok.at c.push.new.self c.push.result)

pub returns-in_ok-queue-in-Err-clause-sent : goal.returns-in_ok-queue-in-Err-clause-sent
returns-in_ok-queue-in-Err-clause-sent c =
    let inserted = rw c.from-key.ensures at c.insert_at.ensures.inserted in
    let g = rw c.from-key.ensures at c.in-Err.ensures.found in
    rw (← c.self.view_is)
    (sent_gap c.args.to c.in_ok-queue-in-Err.queue c.self.inside.queues c.insert_at.new.self c.in-Err.at
    (signal_of c.args.signal)
    c.insert_at.result c.index_of.ensures.rises g.1 c.in_ok-queue-in-Err.ensures inserted)

pub returns-in_ok-queue-in-Err-clause-count : goal.returns-in_ok-queue-in-Err-clause-count
returns-in_ok-queue-in-Err-clause-count c =
    let inserted = rw c.from-key.ensures at c.insert_at.ensures.inserted in
    rw (← c.self.view_is)
    (count_gap c.args.to c.in_ok-queue-in-Err.queue c.self.inside.queues c.insert_at.new.self
    c.insert_at.result inserted)

pub returns-in_ok-queue-in-Err-clause-one : goal.returns-in_ok-queue-in-Err-clause-one
returns-in_ok-queue-in-Err-clause-one c =
    let inserted = rw c.from-key.ensures at c.insert_at.ensures.inserted in
    rw (← c.self.view_is)
    (one_gap c.args.to c.in_ok-queue-in-Err.queue c.self.inside.queues c.insert_at.new.self c.insert_at.result inserted)
