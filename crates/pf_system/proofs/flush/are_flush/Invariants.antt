use Rattle.std.proofs.Common.{◌≡◌}
use Rattle.pf_terms.specs.Term.{elements_of}
use Rattle.pf_model.specs.Flush.{are_flush}
use Rattle.pf_system.proofs.flush.are_flush.Given as goal

-- it depends on what is left
abbrev pub invariant-loop-first : goal.invariant-loop-first
invariant-loop-first l = are_flush (elements_of l.rest) ≡ are_flush (elements_of l.list)
