use Rattle.std.proofs.Common.{◌≡◌, ◌+◌, ◌<◌, max, drop}
use Rattle.pf_terms.specs.Value.{nodes_in, depth_in}
use Rattle.pf_terms.specs.Term.{values_of}
use Rattle.pf_terms.specs.declared.limits.TheConstants.{MOST_DEPTH, MOST_NODES}
use Rattle.pf_terms.proofs.term.size_of.Given as goal

-- what was counted, and what is left, are the whole
abbrev pub invariant-loop-item : goal.invariant-loop-item
invariant-loop-item l = record {
  nodes_is : l.nodes + nodes_in (values_of (drop l.item-index l.items)) ≡ nodes_in (values_of l.items);
  depth_is : max l.depth (depth_in (values_of (drop l.item-index l.items))) ≡ depth_in (values_of l.items);
  nodes_in_range : l.nodes < MOST_NODES;
  depth_in_range : l.depth < MOST_DEPTH;
}
