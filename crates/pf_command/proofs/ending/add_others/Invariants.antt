use Rattle.std.proofs.Common.{◌≡◌, map, take}
use Rattle.pf_command.specs.Waiting.{Adds, after_commas}
use Rattle.pf_command.proofs.ending.add_others.Given as goal

-- the choices of the events so far were added, and no call failed
abbrev pub invariant-loop-event : goal.invariant-loop-event
invariant-loop-event g l =
    let contents = g.W.Write.contents in
    record {
      added : Adds l.fn.waiting.items (after_commas (map (λ e. e.choice) (take l.event-index l.events))) l.waiting.items
          (contents l.fn.writer.inner) (contents l.writer.inner);
      kept : l.writer.failures.total ≡ l.fn.writer.failures.total;
    }
