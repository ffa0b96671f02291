use Rattle.std.proofs.Common.{take}
use Rattle.pf_process_status.specs.Noted.{TakePoints}
use Rattle.pf_process_status.specs.Put.{ArePlaced}
use Rattle.pf_process_status.proofs.processes.put_points.Given as goal

-- the fates are the same but for the points of those that failed, which are those of the notes so far
abbrev pub invariant-loop-failure : goal.invariant-loop-failure
invariant-loop-failure l = record {
  placed : ArePlaced l.fn.standings.items l.standings.items;
  points : TakePoints (take l.failure-index l.failures) l.standings.items;
}
