use Rattle.pf_chart.specs.Words.{DrawsInChart}
use Rattle.std.proofs.Common.{[]}
use Rattle.pf_chart.proofs.heads.put_spawns.Given as goal

-- what is drawn so far has no label
abbrev pub invariant-loop-index : goal.invariant-loop-index
invariant-loop-index l = DrawsInChart [] l.fn.svg l.svg
