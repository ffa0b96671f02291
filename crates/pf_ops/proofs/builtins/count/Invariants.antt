use Rattle.std.proofs.Common.{◌≡◌, ◌+◌}
use Rattle.pf_terms.specs.Value.{count}
use Rattle.pf_terms.specs.Term.{elements_of}
use Rattle.pf_ops.proofs.builtins.count.Given as goal

abbrev pub invariant-loop-others : goal.invariant-loop-others
invariant-loop-others l = l.n + count (elements_of l.rest) ≡ count (elements_of l.list)
