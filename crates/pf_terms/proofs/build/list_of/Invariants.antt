use Rattle.std.proofs.Common.{◌≡◌, vec_len}
use Rattle.pf_terms.specs.Value.{list, IsWithinLimits}
use Rattle.pf_terms.specs.Term.{values_of, elements_of}
use Rattle.pf_terms.proofs.Before.{values_before}
use Rattle.pf_terms.proofs.build.list_of.Given as goal

-- what is left, before what was made, is the whole; and what was made is within the limits
abbrev pub invariant-loop-item : goal.invariant-loop-item
invariant-loop-item l = record {
  whole : values_before l.items.items (elements_of l.list) ≡ values_of l.fn.items.items;
  within : IsWithinLimits (list (elements_of l.list));
}

abbrev pub decreases-loop-item : goal.decreases-loop-item
decreases-loop-item l = vec_len l.items
