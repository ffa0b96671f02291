use Rattle.std.proofs.Common.{◌≡◌, ◌++◌, take}
use Rattle.std.specs.Prelude.{flat_map}
use Rattle.pf_terms.specs.Atoms.{name_of}
use Rattle.pf_page.specs.Pages.{event_item}
use Rattle.pf_page.proofs.events.put_events.Given as goal

-- the events so far have gone out
abbrev pub invariant-loop-event : goal.invariant-loop-event
invariant-loop-event l =
    l.out.items ≡ l.fn.out.items ++ flat_map (event_item (name_of l.atoms)) (take l.event-index l.events)
