use Rattle.std.proofs.Common.{◌≡◌, take, count_by}
use Rattle.pf_diagnostics.specs.Positions.{begins_character}
use Rattle.pf_diagnostics.proofs.position.columns.Given as goal

-- the columns so far are counted
abbrev pub invariant-loop-byte : goal.invariant-loop-byte
invariant-loop-byte l = l.count ≡ count_by begins_character (take l.byte-index l.bytes)
