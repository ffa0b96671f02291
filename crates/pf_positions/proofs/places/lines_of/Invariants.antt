use Rattle.std.proofs.Common.{◌≡◌, take}
use Rattle.pf_positions.specs.Placed.{sign_lines}
use Rattle.pf_positions.proofs.places.lines_of.Given as goal

-- the lines of those so far
abbrev pub invariant-loop-one : goal.invariant-loop-one
invariant-loop-one l = l.lines.items ≡ sign_lines l.number (take l.one-index l.written)
