use Rattle.std.proofs.Common.{◌≡◌, take, count_by}
use Rattle.pf_diagnostics.specs.Positions.{is_newline}
use Rattle.pf_diagnostics.proofs.position.newlines.Given as goal

-- the newlines so far are counted
abbrev pub invariant-loop-byte : goal.invariant-loop-byte
invariant-loop-byte l = l.count ≡ count_by is_newline (take l.byte-index l.bytes)
