use Rattle.pf_process_status.specs.Known.{events_of}
use Rattle.pf_process_status.specs.Put.{ReportsEnds}
use Rattle.pf_process_status.proofs.processes.put_ends.Given as goal

-- a process that an event so far ended has its fate
abbrev pub invariant-loop-event : goal.invariant-loop-event
invariant-loop-event l = ReportsEnds (events_of l.run) l.event l.fn.standings.items l.standings.items
