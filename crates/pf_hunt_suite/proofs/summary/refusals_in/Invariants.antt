use Rattle.std.proofs.Common.{◌≡◌, take}
use Rattle.std.specs.List.{count_by}
use Rattle.pf_hunt_suite.specs.Lines.{is_refused}
use Rattle.pf_hunt_suite.proofs.summary.refusals_in.Given as goal

-- how many there are so far
abbrev pub invariant-loop-ending : goal.invariant-loop-ending
invariant-loop-ending l = l.count ≡ count_by is_refused (take l.ending-index l.ends)
