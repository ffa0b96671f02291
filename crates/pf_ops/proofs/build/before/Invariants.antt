use Rattle.std.proofs.Common.{◌≡◌, vec_len}
use Rattle.pf_terms.specs.Value.{list, IsWithinLimits}
use Rattle.pf_terms.specs.Term.{elements_of, values_of}
use Rattle.pf_ops.specs.Operations.{values_before}
use Rattle.pf_ops.proofs.build.before.Given as goal

-- what is left, before what was made, is the whole; and what was made is within the limits
abbrev pub invariant-loop-item : goal.invariant-loop-item
invariant-loop-item l = record {
  whole : values_before (values_of l.items.items) (elements_of l.list) ≡ values_before (values_of l.fn.items.items)
      (elements_of l.fn.list);
  within : IsWithinLimits (list (elements_of l.list));
}

abbrev pub decreases-loop-item : goal.decreases-loop-item
decreases-loop-item l = vec_len l.items
