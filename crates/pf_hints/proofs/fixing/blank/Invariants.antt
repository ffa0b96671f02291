use Rattle.pf_hints.specs.Fixed.{IsFixed}
use Rattle.pf_hints.proofs.fixing.blank.Given as goal

-- what is blank so far
abbrev pub invariant-loop-at : goal.invariant-loop-at
invariant-loop-at l = IsFixed l.fn.source.items l.source.items
