use Rattle.std.proofs.Common.{◌≡◌, ◌+◌, suc, get_or, subst, arith}
use Rattle.pf_model.specs.Reports.{view_of_event}
use Rattle.pf_process_status.specs.Known.{events_of}
use Rattle.pf_process_status.specs.Noted.{AreMade, none_made, one_more}
use Rattle.pf_process_status.proofs.Following.{event_in}
use Rattle.pf_process_status.proofs.failures.Notes.make_all.Goals as goal

pub loop-event-init : goal.loop-event-init
loop-event-init c = none_made c.args.self.now c.requires.failed c.requires.raised

pub loop-event-preserved : goal.loop-event-preserved
loop-event-preserved c =
    let es = c.args.run.now.events.now in
    let l = c.loop-event in
    let i = l.event in
    let item = c.index-run-event.result in
    let number : suc i ≡ i + 1 = omega arith in
    subst (λ n. AreMade (events_of c.args.run.now) n c.make.new.self) number
    (one_more i (view_of_event (get_or es i item)) l.self c.make.new.self (event_in es i item c.loop-event-test.true)
    l.invariant c.in_ok-make.ensures)
