use Rattle.pf_chart.specs.Traffic.{Sends}
use Rattle.pf_chart.proofs.traffic.Traffic.end.Given as goal

-- the exits and the downs so far were sent
abbrev pub invariant-loop-watcher : goal.invariant-loop-watcher
invariant-loop-watcher l = Sends l.row l.a l.fn.self l.self
