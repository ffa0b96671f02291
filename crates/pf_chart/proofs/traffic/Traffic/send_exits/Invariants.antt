use Rattle.pf_chart.specs.Traffic.{Sends}
use Rattle.pf_chart.proofs.traffic.Traffic.send_exits.Given as goal

-- the exits so far were sent
abbrev pub invariant-loop-linked : goal.invariant-loop-linked
invariant-loop-linked l = Sends l.row l.a l.fn.self l.self
