use Rattle.std.proofs.Common.{◌≡◌, map, take}
use Rattle.pf_terms.specs.Atoms.{name_of}
use Rattle.pf_model.specs.Reports.{view_of_event}
use Rattle.pf_trace.specs.Written.{HasGoneOut, IsShort}
use Rattle.pf_trace.proofs.printing.print_events.Given as goal

-- the events so far were put, the lines of those that don't wait were written, fewer wait than make a piece, and no
-- call failed
abbrev pub invariant-loop-event : goal.invariant-loop-event
invariant-loop-event g l =
    let contents = g.W.Write.contents in
    record {
      out : HasGoneOut (name_of l.atoms) (map view_of_event (take l.event-index l.events)) l.pieces
          (contents l.fn.writer.inner) (contents l.writer.inner);
      short : IsShort l.pieces;
      kept : l.writer.failures.total ≡ l.fn.writer.failures.total;
    }
