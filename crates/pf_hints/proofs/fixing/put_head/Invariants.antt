use Rattle.pf_hints.specs.Fixed.{IsFixed}
use Rattle.pf_hints.proofs.fixing.put_head.Given as goal

-- what is written so far
abbrev pub invariant-loop-piece : goal.invariant-loop-piece
invariant-loop-piece l = IsFixed l.fn.source.items l.source.items
