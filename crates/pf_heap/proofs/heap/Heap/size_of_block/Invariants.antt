use Rattle.std.proofs.Common.{◌≡◌, ◌+◌, ◌<◌, max, length}
use Rattle.std.specs.List.{All}
use Rattle.pf_terms.specs.Value.{nodes_in, depth_in}
use Rattle.pf_terms.specs.declared.limits.TheConstants.{MOST_DEPTH, MOST_NODES}
use Rattle.pf_heap.specs.Heap.{word_values, IsWordOf}
use Rattle.pf_heap.proofs.heap.Heap.size_of_block.Given as goal

-- what was counted, and what is left, are the whole
abbrev pub invariant-loop-first : goal.invariant-loop-first
invariant-loop-first l = record {
  nodes_is : l.nodes + nodes_in (word_values l.self l.rest) ≡ nodes_in (word_values l.self l.fn.words);
  depth_is : max l.depth (depth_in (word_values l.self l.rest)) ≡ depth_in (word_values l.self l.fn.words);
  nodes_in_range : l.nodes < MOST_NODES;
  depth_in_range : l.depth < MOST_DEPTH;
  words : All (IsWordOf l.self) l.rest;
}

abbrev pub decreases-loop-first : goal.decreases-loop-first
decreases-loop-first l = length l.rest
