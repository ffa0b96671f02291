use Rattle.std.proofs.Common.{◌≡◌, false, length}
use Rattle.pf_termtext.specs.Reading.{name_at}
use Rattle.pf_termtext.proofs.Written.{with_front}
use Rattle.pf_termtext.proofs.name.read_name.Given as goal

-- the bytes so far and those that are read after them are the name
abbrev pub invariant-loop-byte : goal.invariant-loop-byte
invariant-loop-byte l = name_at false l.fn.text ≡ with_front l.name.items (name_at false l.rest)

abbrev pub decreases-loop-byte : goal.decreases-loop-byte
decreases-loop-byte l = length l.rest
