use Rattle.std.proofs.Common.{◌≡◌}
use Rattle.pf_explore_answer.proofs.search.failing_by_seed.Given as goal

-- the pace may stop the search as before
abbrev pub invariant-loop-block : goal.invariant-loop-block
invariant-loop-block g l = g.P.Pace.may_stop l.pace ≡ g.P.Pace.may_stop l.fn.pace
