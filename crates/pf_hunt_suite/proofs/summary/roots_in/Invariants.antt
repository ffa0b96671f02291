use Rattle.std.proofs.Common.{◌≡◌, take}
use Rattle.std.specs.List.{count_by}
use Rattle.pf_hunt_suite.specs.Lines.{is_root}
use Rattle.pf_hunt_suite.proofs.summary.roots_in.Given as goal

-- how many there are so far
abbrev pub invariant-loop-ending : goal.invariant-loop-ending
invariant-loop-ending l = l.count ≡ count_by is_root (take l.ending-index l.ends)
