use Rattle.std.proofs.Common.{◌≡◌, take}
use Rattle.std.specs.List.{count_by}
use Rattle.pf_hunt_suite.specs.Lines.{some_root_fails}
use Rattle.pf_hunt_suite.proofs.summary.failures_in.Given as goal

-- how many there are so far
abbrev pub invariant-loop-ending : goal.invariant-loop-ending
invariant-loop-ending l = l.count ≡ count_by some_root_fails (take l.ending-index l.ends)
