use Rattle.pf_process_status.specs.Known.{events_of}
use Rattle.pf_process_status.specs.Noted.{AreMade}
use Rattle.pf_process_status.proofs.failures.Notes.make_all.Given as goal

-- the events so far were made
abbrev pub invariant-loop-event : goal.invariant-loop-event
invariant-loop-event l = AreMade (events_of l.run) l.event l.self
