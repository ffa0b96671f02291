use Rattle.pf_terms.specs.Atoms.{name_of}
use Rattle.pf_page.specs.Pages.{event_item}
use Rattle.pf_page.proofs.Joined.{after_item}
use Rattle.pf_page.proofs.events.put_events.Goals as goal

pub loop-event-preserved : goal.loop-event-preserved
loop-event-preserved c =
    after_item (event_item (name_of c.args.atoms.now)) c.args.events.now c.loop-event.event-index c.event-item.result
    c.args.out.now.items c.loop-event-test.true c.event-item.is c.loop-event.invariant c.in_ok-put_event.ensures
