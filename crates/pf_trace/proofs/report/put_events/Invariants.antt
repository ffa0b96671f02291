use Rattle.std.proofs.Common.{◌≡◌, ◌++◌, take}
use Rattle.std.specs.Prelude.{flat_map}
use Rattle.pf_terms.specs.Atoms.{name_of}
use Rattle.pf_model.specs.Reports.{view_of_event}
use Rattle.pf_model.specs.Text.{event_text}
use Rattle.pf_model.specs.TermText.{line}
use Rattle.pf_trace.proofs.report.put_events.Given as goal

-- the lines so far have gone out
abbrev pub invariant-loop-event : goal.invariant-loop-event
invariant-loop-event l =
    l.out.items ≡ l.fn.out.items ++ flat_map (λ e. line (event_text (name_of l.atoms) (view_of_event e)))
    (take l.event-index l.events)
