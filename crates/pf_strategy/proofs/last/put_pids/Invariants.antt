use Rattle.std.proofs.Common.{◌≡◌, ◌++◌, map, take}
use Rattle.std.specs.Prelude.{filter}
use Rattle.pf_strategy.specs.Last.{is_other}
use Rattle.pf_strategy.proofs.last.put_pids.Given as goal

-- the others so far are those of the processes so far, and so are their marks
abbrev pub invariant-loop-pid : goal.invariant-loop-pid
invariant-loop-pid l = record {
  others : l.others.items ≡ l.fn.others.items ++ filter (is_other l.last) (take l.pid-index l.pids);
  marks : l.marks.items ≡ l.fn.marks.items ++ map (is_other l.last) (take l.pid-index l.pids);
}
