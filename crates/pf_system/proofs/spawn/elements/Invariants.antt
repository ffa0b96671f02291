use Rattle.std.proofs.Common.{◌≡◌}
use Rattle.pf_terms.specs.Term.{elements_of, values_of}
use Rattle.pf_ops.specs.Operations.{values_before}
use Rattle.pf_system.proofs.spawn.elements.Given as goal

-- what was copied, before what is left, is the whole
abbrev pub invariant-loop-first : goal.invariant-loop-first
invariant-loop-first l = values_before (values_of l.items.items) (elements_of l.rest) ≡ elements_of l.list
