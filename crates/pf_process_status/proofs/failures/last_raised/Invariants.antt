use Rattle.std.proofs.Common.{◌≡◌, take}
use Rattle.pf_process_status.specs.Noted.{last_point}
use Rattle.pf_process_status.proofs.failures.last_raised.Given as goal

-- the point of the last so far
abbrev pub invariant-loop-failure : goal.invariant-loop-failure
invariant-loop-failure l = l.last ≡ last_point l.pid (take l.failure-index l.raised)
