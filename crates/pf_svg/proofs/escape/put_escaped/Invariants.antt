use Rattle.std.proofs.Common.{◌≡◌, ◌++◌, take}
use Rattle.pf_svg.specs.Escaped.{escaped}
use Rattle.pf_svg.proofs.escape.put_escaped.Given as goal

-- the bytes so far have gone out
abbrev pub invariant-loop-byte : goal.invariant-loop-byte
invariant-loop-byte l = l.out.items ≡ l.fn.out.items ++ escaped (take l.byte-index l.text)
