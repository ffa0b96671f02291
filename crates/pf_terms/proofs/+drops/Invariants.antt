use Rattle.std.proofs.Common.{◌≤◌}
use Rattle.pf_terms.specs.Value.{nodes_in}
use Rattle.pf_terms.specs.Term.{elements_of}
use Rattle.pf_terms.proofs.+drops.Given as goal

abbrev pub decreases-term::List::drop : goal.decreases-term::List::drop
decreases-term::List::drop l = goal.size-term::List::drop l

-- what is left of the list has no more nodes than the whole
abbrev pub invariant-term::List::drop-loop-self : goal.invariant-term::List::drop-loop-self
invariant-term::List::drop-loop-self l = nodes_in (elements_of l.self) ≤ nodes_in (elements_of l.fn.self)
